-- What a commit of several branches comes to: its ends, and what each says.
use Rattle.std.specs.Prelude.{◌≡◌, ℕ, ◌≤◌, Bool, true, false, Option, None, Some, List, [], length, map}
use Rattle.xa_words.specs.Tran.{TranName}
use Rattle.xa_words.specs.declared.code.Code.{Code}
use Rattle.xa_words.specs.declared.death.Death.{Death}
use Rattle.xa_calls.specs.Scans.{Asking}
use Rattle.xa_desk.specs.DeskViews.{DeskView}
use Rattle.xa_driver.specs.declared.branch.Branch.{Branch}
use Rattle.xa_driver.specs.declared.done.CommitOutcome.{CommitOutcome}
use Rattle.xa_driver.specs.declared.done.CommitOutcome.TheVariants as outcome
use Rattle.xa_driver.specs.declared.done.Ending.{Ending}
use Rattle.xa_driver.specs.declared.done.LastKnown.{LastKnown}
use Rattle.xa_driver.specs.declared.done.LastKnown.TheVariants.{Votes, Decided, Told}
use Rattle.xa_driver.specs.Asks.{KeepsTheRest}
use Rattle.xa_driver.specs.Deaths.{AppendsUntil, Dies, HaveAsked, LeavesHandles, Putting, is_decided_by}
use Rattle.xa_driver.specs.Decision.{yes_of}
use Rattle.xa_driver.specs.RoundOrder.{GoesAsRound, IsThreeRounds}
use Rattle.xa_driver.specs.Rounds.{first_ask}
use Rattle.xa_driver.specs.Trace.{AppendsOnce, Commits, IsUnknown, has_branch_at, wants_record}
use Rattle.xa_log.specs.Log.{LogState}

-- ---- what was known at a death

-- it was decided to commit
abbrev pub knows_commit : LastKnown → Bool
knows_commit (Votes votes) = false
knows_commit (Decided decision votes) = decision.commit
knows_commit (Told done) = done.commit

-- the votes, those of the first branches
abbrev pub votes_known : LastKnown → List Code
votes_known (Votes votes) = votes.items
votes_known (Decided decision votes) = votes.items
votes_known (Told done) = done.votes.items

-- the endings, of all branches or of none
abbrev pub endings_known : LastKnown → List Ending
endings_known (Votes votes) = []
endings_known (Decided decision votes) = []
endings_known (Told done) = done.endings.items

-- ---- the ends of a commit

-- it was decided to commit
abbrev pub comes_to_commit : CommitOutcome → Bool
comes_to_commit (outcome.Decided done) = done.commit
comes_to_commit (outcome.Undecided votes) = false
comes_to_commit (outcome.Died at known) = knows_commit known

-- the coordinator died with it
abbrev pub comes_to_death : CommitOutcome → Bool
comes_to_death (outcome.Died at known) = true
comes_to_death other = false

-- no commit is to follow it with its log: the coordinator died with it, or the log has lost the record
abbrev pub ends_the_log : CommitOutcome → Bool
ends_the_log (outcome.Decided done) = false
ends_the_log other = true

-- a coordinator that is to die at this point of a commit, or at none, comes to the decision
abbrev pub comes_to_decide : Option Death → Bool
comes_to_decide None = true
comes_to_decide (Some at) = is_decided_by at

-- ---- what each says, over states of each manager

-- All have voted, and the votes want a record; nothing more was asked, since nobody knows whether the log has it.
pub record IsLeftUndecided {D : Type 0} (asking : Asking D) (putting : Putting D) (bs : List Branch) (old new : ℕ → D)
    (votes : List Code) : Type 0 where
  pub asked : HaveAsked asking putting bs votes old new
  pub counted : length votes ≡ length bs
  pub others : (m : ℕ) → 1 ≤ m → has_branch_at bs m ≡ false → new m ≡ old m
  pub wanted : wants_record votes ≡ true

-- What a commit of these branches did whose coordinator is to die at this point, or at none, and what it came to. Where
-- it is left undecided, nothing is said of the log.
abbrev pub ComesTo : {D : Type 0} → Asking D → Putting D → Option Death → TranName → List Branch → (ℕ → D) → (ℕ → D)
    → LogState → LogState → CommitOutcome → Type 0
ComesTo asking putting death tran bs old new log later (outcome.Decided done) =
    (death ≡ None) × Commits asking tran bs old new log later done
ComesTo asking putting death tran bs old new log later (outcome.Undecided votes) =
    (comes_to_decide death ≡ true) × IsLeftUndecided asking putting bs old new votes.items
ComesTo asking putting death tran bs old new log later (outcome.Died at known) =
    (death ≡ Some at) × Dies asking putting at tran bs old new log later known

-- ---- the log itself, and the desk

-- a kind of log: whether its records are known, and what an append does to it
pub record LogKind (L : Type 0) : Type 1 where
  pub knows : L → Type 0
  pub appends : TranName → List Bool → Bool → L → L → Type 0
  pub loses : TranName → List Bool → L → L → Type 0

-- What was done to the log: where the votes want a record it was appended once, unless the coordinator died before. The
-- log is known still, unless it is left undecided.
abbrev pub TellsTheLog : {L : Type 0} → LogKind L → TranName → List Branch → L → L → CommitOutcome → Type 0
TellsTheLog kind tran bs old new (outcome.Decided done) =
    AppendsOnce kind.appends tran (yes_of bs done.votes.items) done.votes.items done.logged old new × kind.knows new
TellsTheLog kind tran bs old new (outcome.Undecided votes) =
    IsUnknown kind.knows kind.loses tran (yes_of bs votes.items) votes.items old new
TellsTheLog kind tran bs old new (outcome.Died at known) =
    AppendsUntil kind.appends tran bs known old new × kind.knows new

-- What was done at the desk: each round was sent before any of it was collected, and what is kept under the handles and
-- all that was outstanding stays, with its tickets. A coordinator that died leaves handles of its own.
abbrev pub LeavesTheDesk : List Branch → DeskView → DeskView → CommitOutcome → Type 0
LeavesTheDesk bs old new (outcome.Decided done) = IsThreeRounds bs done.commit old new × KeepsTheRest old new
LeavesTheDesk bs old new (outcome.Undecided votes) =
    GoesAsRound (map first_ask bs) old new × KeepsTheRest old new
LeavesTheDesk bs old new (outcome.Died at known) = LeavesHandles bs old new
