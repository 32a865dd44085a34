pub mod Shown
pub mod Unfinished
-- The words of this crate, by its name.
pub use Shown.{AreNamedByNoOther, CountsAsShown, IsAsShown, IsOneOutcome, IsSumOfShares, NamesNone, LinePlace}
pub use Shown.{ShowsOneOutcome, branches_by, is_branch_among, names_it}
pub use Unfinished.{EndByTheRecord, EndSoOrAreDecided, EndsByTheRecord, EndsSoOrIsDecided}
pub use Unfinished.{IsShownByTheRecord, HasAgreed, IsAsFarAsShown, IsAsFarUnlessDecided}
pub use Unfinished.{are_told_by}
