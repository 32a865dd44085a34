pub mod Planning
pub mod Wants
pub mod Parts
pub mod Commits
pub mod Resolves
pub mod Journals
pub mod ToldOpenings
pub mod Runs
-- The words of this crate, by its name.
pub use Planning.{AreNumbersOf, AreOpened, IsPlanOf, IsSetupOf, plan_says, script_says}
pub use Wants.{IsRefusal, Wanted, in_xa, outside_xa, refusals, wanted, wanted_by, wanted_in}
pub use Parts.{PartAsked, CallTakes, HasCode, Lists, Part, entered_so_far, new_part, next_entry, next_of_part}
pub use Parts.{with_next_entry, with_handle, without_handle}
pub use Commits.{CarriesOut, CarriesOutSome, CommitTakes, IsKeptUnlessShut, KeepsHandles, KeepsInFlight, LeavesTheLog}
pub use Commits.{TakesCommit, and_if_after, in_flight_at, told_after}
pub use Resolves.{EndsLeft, ResolveTakes}
pub use Journals.{AddsNone, AreCarriedOut, AreCommitted, AreHandlesLeft, ArePrepared, IsCarriedOut, IsInJournal, Line}
pub use Journals.{ShowsCommit, TaskTakes, TakesPart, answers_to, ends_of, entries_of, is_end_of, is_to}
pub use ToldOpenings.{Beginning, Former, Leaves, ToldOpening, Tells, TellsOf, answers_over, beginning, part_at}
pub use ToldOpenings.{settled_over, steps_over}
pub use Runs.{BeginsAs, ThreadComes, OpeningRan}
