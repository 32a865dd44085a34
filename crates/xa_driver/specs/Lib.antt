pub mod Decision
pub mod Endings
pub mod Forgetful
pub mod Course
pub mod Asks
pub mod Rounds
pub mod Trace
pub mod UnderWay
pub mod Stages
pub mod RoundOrder
pub mod Resolving
pub mod Idling
pub mod RoundSteps
pub mod Commits
pub mod Deaths
pub mod Outcomes
-- The words of this crate, by its name.
pub use Decision.{decides_commit, has_yes, is_no, is_read, is_yes, voted_yes, yes_of}
pub use Endings.{ending_by, ending_of, is_decided, is_heuristic, is_out_of_reach, no_ending, second_by, second_op}
pub use Endings.{third_op, vote_of, yes_ending}
pub use Forgetful.{has_acknowledged, has_endings, is_acknowledged, unfinished}
pub use Course.{AsksFor, AtBranch, VotesAndObeys, VotesThen}
pub use Asks.{AllCanAsk, AreRising, Ask, AskTrace, BeginsAsk, CanAsk, EachAsk, EachBegan, EndsAsk, HasBegun}
pub use Asks.{HaveComeSoFar}
pub use Asks.{IsAnswered, IsBegun, IsInFlight, IsSameAsk, IsSending, IsUnsent, KeepsTicket, KeepsDesk, KeepsTheRest}
pub use Asks.{LeavesOutstanding, LeavesOwned, Owning, SameAsks, among_asks, asked, collected, in_flight, op_wanted}
pub use Asks.{unasked, unsent_code}
pub use Rounds.{asked_yes, code_of_ask, ending_of_ask, first_ask, second_ask, third_ask, yes_asked}
pub use Trace.{AppendsOnce, AreBranchesRising, EachBranch, HasRoom, HaveRoom, IsCommit, IsDecidedBy, IsTraceOfCommit}
pub use Trace.{IsTranOf, IsUnknown, Logs, MayCommit, MayPrepare, appended, decision_of, failed, has_branch_at}
pub use Trace.{unwanted, voted}
pub use Trace.{wants_record}
pub use UnderWay.{AllKeptBut, AreOtherTickets, BeginsRound, CollectsAsk, IsAmong, IsAtRest, AllAreCollected, AllAreSent}
pub use UnderWay.{IsUnderWay, LeavesInFlight, LeavesKept, LeavesOtherTickets, MayAsk, OwnsAll, SendsAsk, Stays}
pub use UnderWay.{with_code, next_ask, next_ticket, sent_count}
pub use Stages.{HasDecided, HasForgotten, HasPrepared, HasRoomFor, HasTold, HasVoted, IsForgetting, IsPreparing}
pub use Stages.{IsTelling, MayForget, MayTell}
pub use RoundOrder.{CollectsFirst, GoesAsFar, GoesAsRound, IsRound, IsThreeRounds, SendsMore, SendsThenCollects}
pub use RoundOrder.{collections}
pub use RoundOrder.{goes_out, operations_of, round_of, sendings, sent_of}
pub use Resolving.{AsksAlone, AsksIf, AsksLedger, IsTraceOfResolve, MayResolve, Resolves, ResolvesAt, ResolvesBranch}
pub use Resolving.{ResolvesInTurn, ResolvesThese, begun, is_to_commit, left_up_to, is_recorded_at, next, outcome_op}
pub use Resolving.{requests_for}
pub use Idling.{IdlesAt, IdlesToCollect, IdlesToSend, again, never, unsent}
pub use RoundSteps.{CollectsNext, CollectsNothing, Passes, SendsNext, SendsNothing, asked_first, count_asked, is_passed}
pub use RoundSteps.{next_collected, passes, starts}
pub use Commits.{HasSentNone, NoCommitWasSent, is_commit}
pub use Deaths.{AppendsUntil, CameTo, CameToAnswers, CameToDecision, CameToEndings, CameToVotes, Dies, HaveAsked}
pub use Deaths.{HaveTold, IsOfRound, KnowsDecision, LeavesDesk, LeavesHandles, PutsLedger, Putting, AsksOrPuts}
pub use Deaths.{VotesAndHears, sent_so_far}
pub use Deaths.{is_decided_by, to_come, withheld}
pub use Outcomes.{ComesTo, IsLeftUndecided, LeavesTheDesk, LogKind, TellsTheLog, comes_to_decide}
pub use Outcomes.{comes_to_commit, comes_to_death, endings_known, ends_the_log, knows_commit, votes_known}
pub use declared.branch.Branch.{Branch}
pub use declared.done.CommitOutcome.{CommitOutcome}
pub use declared.done.LastKnown.{LastKnown}
pub use declared.done.Done.{Done}
pub use declared.done.Ending.{Ending}
pub use declared.done.Ending.TheVariants.{Committed, Heuristic, InDoubt, Left, ReadOnly, RolledBack}
pub use declared.resolved.Outcome.{Outcome}
pub use declared.resolved.Resolved.{Resolved}
pub use declared.round.Round.{Round}
pub use declared.stages.Decided.{Decided}
pub use declared.stages.Forgetting.{Forgetting}
pub use declared.stages.Prepared.{Prepared}
pub use declared.stages.Preparing.{Preparing}
pub use declared.stages.Telling.{Telling}
pub use declared.stages.Told.{Told}
