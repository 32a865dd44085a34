-- The bytes of a line of a transcript.
use Rattle.std.specs.Prelude.{ℕ, ℤ, Bool, true, false, List, ◌++◌, length, codes, decimal}
use Rattle.std.specs.List.{flat_map}
use Rattle.std.specs.Fmt.{signed_decimal}
use Rattle.xa_words.specs.CodeNumbers.{number_of}
use Rattle.xa_words.specs.declared.code.Code.{Code}
use Rattle.xa_words.specs.Xid.{XidName}
use Rattle.xa_driver.specs.declared.done.CommitOutcome.{CommitOutcome}
use Rattle.xa_driver.specs.declared.done.CommitOutcome.TheVariants as outcome
use Rattle.xa_driver.specs.declared.done.Done.{Done}
use Rattle.xa_driver.specs.declared.done.Ending.{Ending}
use Rattle.xa_driver.specs.declared.done.LastKnown.{LastKnown}
use Rattle.xa_driver.specs.declared.done.LastKnown.TheVariants as known
use Rattle.xa_driver.specs.declared.resolved.Outcome.{Outcome}
use Rattle.xa_driver.specs.declared.done.Ending.TheVariants.{Committed, ReadOnly, RolledBack, InDoubt, Heuristic, Left}
use Rattle.script_transcript.specs.declared.answer.Answer.{Answer}
use Rattle.script_transcript.specs.declared.answer.Answer.TheVariants.{Called, Completed, Recovered, Refused, Commit}
use Rattle.script_transcript.specs.declared.answer.Answer.TheVariants.{Resolved}
use Rattle.script_transcript.specs.declared.answer.TranscriptLine.{TranscriptLine}
use Rattle.script_transcript.specs.declared.answer.TranscriptLine.TheVariants.{Answered, Turned, Ended, Reopened}
use Rattle.xa_worker.specs.declared.step.WorkerStep.{WorkerStep}
use Rattle.xa_worker.specs.declared.step.WorkerStep.TheVariants.{Did, Late, EndSeen, Empty, Blocked}

-- did, late, end, empty, blocked
abbrev pub turn_text : WorkerStep → List ℕ
turn_text Did = codes "did"
turn_text Late = codes "late"
turn_text EndSeen = codes "end"
turn_text Empty = codes "empty"
turn_text Blocked = codes "blocked"

-- handle H retval R, after a space
abbrev pub handle_text : List ℕ → ℤ → List ℕ
handle_text handle retval = codes " handle " ++ handle ++ codes " retval " ++ signed_decimal retval

-- committed, readonly, rolledback, indoubt, heur:C, left:C
abbrev pub ending_text : Ending → List ℕ
ending_text Committed = codes "committed"
ending_text ReadOnly = codes "readonly"
ending_text RolledBack = codes "rolledback"
ending_text InDoubt = codes "indoubt"
ending_text (Heuristic c) = codes "heur:" ++ signed_decimal (number_of c)
ending_text (Left c) = codes "left:" ++ signed_decimal (number_of c)

-- commit, abort
abbrev pub decision_text : Bool → List ℕ
decision_text true = codes "commit"
decision_text false = codes "abort"

-- logged, unlogged
abbrev pub record_text : Bool → List ℕ
record_text true = codes "logged"
record_text false = codes "unlogged"

-- A word for each branch, after a space.
abbrev pub endings_text : List Ending → List ℕ
endings_text endings = flat_map (λ e. codes " " ++ ending_text e) endings

-- vote:C
abbrev pub vote_text : Code → List ℕ
vote_text c = codes "vote:" ++ signed_decimal (number_of c)

-- A word for each vote, after a space.
abbrev pub votes_text : List Code → List ℕ
votes_text votes = flat_map (λ v. codes " " ++ vote_text v) votes

-- The decision, and whether it was logged.
abbrev pub decided_text : Bool → Bool → List ℕ
decided_text commit logged = decision_text commit ++ codes " " ++ record_text logged

-- The decision, whether it was logged, and what became of each branch.
abbrev pub done_text : Done → List ℕ
done_text d = decided_text d.commit d.logged ++ endings_text d.endings.items

-- What was known of a commit as its coordinator died: the votes, with the decision before them once it was made, and in
-- the end what became of each branch.
abbrev pub known_text : LastKnown → List ℕ
known_text (known.Votes votes) = votes_text votes.items
known_text (known.Decided decision votes) =
    codes " " ++ decided_text decision.commit decision.logged ++ votes_text votes.items
known_text (known.Told done) = codes " " ++ done_text done

-- What a commit came to: commit logged E .., undecided V .., died V .., died commit logged V ..,
-- died commit logged E ..
abbrev pub commit_text : CommitOutcome → List ℕ
commit_text (outcome.Decided done) = done_text done
commit_text (outcome.Undecided votes) = codes "undecided" ++ votes_text votes.items
commit_text (outcome.Died at last) = codes "died" ++ known_text last

-- G.B
abbrev pub xid_text : XidName → List ℕ
xid_text x = x.gtrid ++ codes "." ++ x.bqual

-- How many, and each after a space.
abbrev pub listed_text : List XidName → List ℕ
listed_text xids = decimal (length xids) ++ flat_map (λ x. codes " " ++ xid_text x) xids

-- commit, rollback
abbrev pub resolution_text : Bool → List ℕ
resolution_text true = codes "commit"
resolution_text false = codes "rollback"

-- M:G.B:commit:C, M:G.B:rollback:C
abbrev pub outcome_text : Outcome → List ℕ
outcome_text o =
    decimal o.m ++ codes ":" ++ xid_text o.xid ++ codes ":" ++ resolution_text o.commit ++ codes ":"
    ++ signed_decimal (number_of o.code)

-- A word for each branch, after a space.
abbrev pub outcomes_text : List Outcome → List ℕ
outcomes_text outcomes = flat_map (λ o. codes " " ++ outcome_text o) outcomes

-- C, 0 handle H retval R, N X .., refused, what a commit came to, resolved O ..
abbrev pub answer_text : Answer → List ℕ
answer_text (Called answer) = signed_decimal answer
answer_text (Completed handle retval) = codes "0" ++ handle_text (signed_decimal handle) retval
answer_text (Recovered xids) = listed_text xids.items
answer_text Refused = codes "refused"
answer_text (Commit o) = commit_text o
answer_text (Resolved outcomes) = codes "resolved" ++ outcomes_text outcomes.items

-- L T and the answer, L turn S, end T handle H retval R, L reopened
abbrev pub told_text : TranscriptLine → List ℕ
told_text (Answered line thread answer) =
    decimal line ++ codes " " ++ decimal thread ++ codes " " ++ answer_text answer
told_text (Turned line step) = decimal line ++ codes " turn " ++ turn_text step
told_text (Ended thread handle retval) = codes "end " ++ decimal thread ++ handle_text (decimal handle) retval
told_text (Reopened line) = decimal line ++ codes " reopened"

-- What a line tells, and its line feed.
abbrev pub line_text : TranscriptLine → List ℕ
line_text told = told_text told ++ codes "\n"

-- The lines, one after the other.
abbrev pub lines_text : List TranscriptLine → List ℕ
lines_text lines = flat_map line_text lines
