pub mod Asking
pub mod Putting
pub mod Completing
pub mod Scans
-- The words of this crate, by its name.
pub use Asking.{asked_of, native, op_by, op_of, rm_op}
pub use Putting.{CallLeaves, Calls, CallsAndWaits, Puts, async_refusal, call_waits, code_of, full, kept, put_refusal}
pub use Completing.{CollectsRedeemed, CompletesAndWaits, CompletesAny, CompletesAt, CompletesBy, CompletesIn}
pub use Completing.{CompletesOne, HasCompleted, HasWaited, KeepsNothing, WritesHandle, WaitsIn, WaitsRedeemed}
pub use Completing.{completion_waits, is_of_manager, keeps_by, keeps_for, may_complete, number_in}
pub use Scans.{Answers, AsksAndWaits, HasRecovered, IsInVain, RecoverLooks, Recovers, RecoversAndWaits, RecoversAt}
pub use Scans.{RecoversBy, RecoversFrom, asks, asks_at, begun, scan_end, ended, filled, finds, looked_at, passes}
pub use Scans.{room_in, scan_start, stopped, told, told_as, unreached, with_found}
pub use declared.putting.Asked.{Asked}
