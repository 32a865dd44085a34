pub mod Worked
pub mod Work
pub mod Crashes
-- The words of this crate, by its name.
pub use Worked.{begun_again, branch, commits_after_adding, committed_later, decided_history, decided_then, ended_then}
pub use Worked.{worked_entry, failed_history, fate_after, forgotten_later, gone_later, overdrawn, rolled_back_later}
pub use Worked.{transferred, unchanged, undone, adding, another, one_completed, taking, two_keys, two_prepared}
pub use Worked.{value_after, voted_history, voted_then, worked}
pub use Work.{AddsAsItWorks, DoesWork, LeavesAtWork, request}
pub use Crashes.{shut_at, shut_by}
