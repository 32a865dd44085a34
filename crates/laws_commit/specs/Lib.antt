pub mod Calls
pub mod Cut
pub mod LawsOfTables
pub mod Outcomes
pub mod Additions
pub mod Conservation
pub mod Resolution
pub mod Worth
pub mod Presumed
-- The words of this crate, by its name.
pub use Calls.{CommitCall, HasFinished, IsFinished, IsFinishedIn, ResolveCall, after_at, before_at, commit_call}
pub use Calls.{prepare_at, resolve_call, turned_out}
pub use Cut.{AfterOther, AreOthers, CameSoFar, DecisionOf, DidOnly, DidOther, EachVote, GoesByTheRecord, IsAsked, IsCut}
pub use Cut.{IsEnded, IsTold, LeavesBranches, NoneWasToldToCommit, NoneWasToldToRollBack, TurnsOut, asking, ending_at}
pub use Cut.{endings_of, forgetting, is_commit_of, is_recorded, is_rollback, is_rollback_of, known_at, telling}
pub use Outcomes.{AreLeftAlone, AreLeftOrDecided, EachOutcome, IsAbortedTransaction, IsAfterShut, IsBetween}
pub use Outcomes.{IsCommittedTransaction, IsDecidedAfter, IsInDoubtUnlessDecided, IsLeftAlone, IsLeftOrDecided}
pub use Outcomes.{KeepsItsVote, KeepsTheVotes, OnlyTheseName, OnlyTheseOrDecisionsName, TellsTheFate, TellsTheFates}
pub use Outcomes.{WasAtFirst, WasDecidedAfter, append_failed, decided, has_committed, has_rolled_back, has_vote_against}
pub use Outcomes.{heuristic_fate, ends_heuristic, ends_in_doubt, ends_left, ends_read_only, ends_rolled_back, told_fate}
pub use Outcomes.{undecided, was_refused}
pub use Additions.{CountsTheCommitted, HasAllOrNothing, IsAddition, Shares, is_decided_everywhere, none_later}
pub use Additions.{prepare_of}
pub use Conservation.{NothingWasSent, OnlyTransfers, added_before, added_by_all, committed, held_in_doubt, opened}
pub use Conservation.{taken_before, total_in_doubt, worked}
pub use Resolution.{AreInARow, AreOfAllLogs, AreUses, AskedAreLeft, Continues, EachEnds, EndsAs, GoesOnAfter}
pub use Resolution.{HasBranchLeft, HasLeftOf, ResolveHasSent, IsAllOrNone, IsByItsThread, IsAsPromised, IsKept}
pub use Resolution.{IsListed, IsOutcomeOf, IsResolved, IsUseIn, NamesTran, OfCommit, OnlyResolves, Opening}
pub use Resolution.{TellsTheOutcome, TellsTheOutcomes, Use, WasAsked, all, became, commits, ended_as, fate_through}
pub use Resolution.{last_of, lists_after, none, outcome_fate, resolves, tables_left, user, uses_of, with_resolves}
pub use Resolution.{with_use}
pub use Worth.{CountsAllOrNone, CountsOver, IsUnlisted, SharesOver, commits_after, histories}
pub use Presumed.{CountsByTheLog, EndsByTheLog, VotedToCommit, known_of}
pub use LawsOfTables.{Tabled}
