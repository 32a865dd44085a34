pub mod Numbered
pub mod Transfers
pub mod Tellers
-- The words of this crate, by its name.
pub use Numbered.{death_if_at, death_in, shut_before, store_if_at}
pub use Transfers.{AreLegs, FORMAT, HasLegs, HasNoLegs, IsLeg, IsReadEither, Leg, Makes, MakesAll, MakesEach, MakesNext}
pub use Transfers.{MayShut, WantsMemory, branches_of_legs, change_of, changes_of, log_after_forgetting, gtrid_of}
pub use Transfers.{leg_by, paid_first, pays_first, tran_of_transfer, with_legs, without_legs}
pub use Tellers.{TransfersCome, EndsWhole, HasMade, IsClearAt, IsUndoubted, ReadsBack, TellerWorks, WorksOn, ended}
pub use Tellers.{has_record_of, has_undecided, is_undecided, last_number, lived, plain, unknown}
pub use declared.habits.Habits.{Habits}
pub use declared.habits.ShutsAt.{ShutsAt}
pub use declared.teller.Teller.{Teller}
pub use declared.teller.Transfer.{Transfer}
