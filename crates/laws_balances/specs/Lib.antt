pub mod MovedOver
pub mod Course
pub mod Days
pub mod SettledDays
pub mod Calls
pub mod Recorded
pub mod Legs
-- The words of this crate, by its name.
pub use MovedOver.{CommitsAmong, CommitsNowhere, is_for, moved_over}
pub use Course.{MovesWhereCommitted, OnlyTold, Votes, ended_by_commit, is_outcome, is_outcome_or_in_doubt}
pub use Course.{tells_outcome, voted_sum}
pub use Days.{ComesOut, IsDay, DayLeg, WorthIsOfBranches, WorthIsRecorded, counted_for}
pub use SettledDays.{ComesOutByTheLog, IsSettledDay, SettledWorthIsRecorded, branch_at}
pub use Calls.{CommitsInCall, DecidesNowhere, IsMarkedNowhere, VotedInCall, taken_till_asked}
pub use Recorded.{AgreedOrRead, OnlyRead, agreed, read}
pub use Legs.{IsItsOwn, asked_sum, leg_of}
