pub mod AbstractBank
pub mod Days
pub mod Nights
pub mod Banks
-- The words of this crate, by its name.
pub use AbstractBank.{Balances, all_applied, applied, transfer_share}
pub use Days.{AreReadBack, AreToldAll, BeginsWith, DayAndNight, ForEach, IsDawn, IsDayOf, IsGtridOfTransfer, IsReadBack}
pub use Days.{IsResolvedBy, IsToldAll, WorkedIn, all_told, balances_at, balances_of, is_applied, records_of_logs, told}
pub use Nights.{Excuses, HasPassed, HasRoomToResolve, IsNight, IsUnsettledNight, IsUntouched, ResolvesBy, unopened}
pub use Nights.{unused}
pub use Banks.{AreClosed, AreOver, AreTurned, HasEnded, HasRoomForTellers, HasStopped, TellersHaveWorked, HaveNoRecord}
pub use Banks.{IsClosedByNight, IsClosedDay, IsBankDay, IsGoodDay, IsMovedBy, IsOpenedBank, IsOver, IsReadyForDay}
pub use Banks.{IsUnresolved, IsWithin, IsWorkedDay, LeavesBank, LeavesDay, at_day, at_once, day_numbers, early}
pub use Banks.{habits_on, has_account, next_numbers, night_numbers, told_on, told_over, whole}
pub use declared.bank.Bank.{Bank}
pub use declared.day.Closed.{Closed}
pub use declared.day.Worked.{Worked}
pub use declared.errands.Errands.{Errands}
pub use declared.night.Resolver.{Resolver}
pub use declared.night.Unresolved.{Unresolved}
pub use declared.night.Unresolved.TheVariants.{BadNumbers, NoMemory, NoRoom, TellerWantsMemory, UnknownLog}
