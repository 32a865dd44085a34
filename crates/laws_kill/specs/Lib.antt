pub mod Crashes
pub mod AsSettled
pub mod Worked
pub mod Stops
pub mod Openings
pub mod Balances
-- The words of this crate, by its name.
pub use Crashes.{AgreeSoFar, Crash, CrashedManager, IsCrash, IsCrashedManager, find_crashed, kept_at, kept_in_store}
pub use Crashes.{ledgers_then}
pub use AsSettled.{IsAsSettled, HasNoRequests, all_collected, as_settled, collected_all, journal_at, journal_of}
pub use AsSettled.{journal_shut, lost, lost_of, over_stores, shut_entry, shut_ledger, shut_off, shutting_part}
pub use AsSettled.{shutting_thread, tables_kept, thread_collected, with_a_thread}
pub use Worked.{first_answers, first_journal, first_ledger, second_journal, worked_crash, worked_ledger, worked_manager}
pub use Worked.{worked_setup, worked_thread}
pub use Stops.{AreStopped, LanesCarry, StoppedWorker, stopped, stopped_manager, stopped_thread}
pub use Openings.{AreOpenedInTurn, AreReadOfAllLogs, EndedOpening, EndsInOrder, FollowEachOther, HowEnded, IsEndOf}
pub use Openings.{IsEndedOpening, IsLeftToResolves, IsOpenedOver, IsThere, LastResolves, NextIsOpenedOver, WasBegunIn}
pub use Openings.{as_opening, ledgers_at_end, settled_as, tables_found, with_commit}
pub use Balances.{AreDeclaredAt, AreLegsOfAll, ComesOutInTurn}
