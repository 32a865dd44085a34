-- What a unit of work does to its thread's desk and log.
use Rattle.std.specs.Prelude.{◌≡◌, ◌+◌, ◌≤◌, Bool, true, false, Option, None, Some, List, length}
use Rattle.std.specs.List.{All}
use Rattle.xa_base.specs.declared.limits.TheConstants.{MOST_MANAGERS, MOST_REQUESTS}
use Rattle.xa_words.specs.Tran.{TranName}
use Rattle.xa_words.specs.declared.code.Code.{Code}
use Rattle.xa_words.specs.declared.death.Death.{Death}
use Rattle.xa_desk.specs.LedgerViews.{LedgerView}
use Rattle.xa_desk.specs.DeskViews.{DeskView, ledger, room_at}
use Rattle.xa_driver.specs.declared.branch.Branch.{Branch}
use Rattle.xa_driver.specs.declared.done.CommitOutcome.{CommitOutcome}
use Rattle.xa_driver.specs.declared.done.CommitOutcome.TheVariants.{Undecided}
use Rattle.xa_driver.specs.Deaths.{PutsLedger}
use Rattle.xa_driver.specs.Outcomes.{ComesTo, comes_to_commit, comes_to_death, ends_the_log}
use Rattle.xa_driver.specs.Resolving.{AsksLedger}
use Rattle.xa_driver.specs.Decision.{yes_of}
use Rattle.xa_driver.specs.Trace.{IsTranOf, MayCommit}
use Rattle.xa_log.specs.Log.{LogState}
use Rattle.xa_work.specs.declared.unit.Change.{Change}
use Rattle.xa_work.specs.declared.unit.Refusal.TheVariants.{GivenUp, NotBegun}
use Rattle.xa_work.specs.declared.unit.TheConstants.{AFTERWARDS}
use Rattle.xa_work.specs.declared.unit.WorkOutcome.{WorkOutcome}
use Rattle.xa_work.specs.declared.unit.WorkOutcome.TheVariants.{Commit, Refused}
use Rattle.xa_work.specs.Sent.{HaveSent, IsFor}
use Rattle.xa_work.specs.Works.{GivesUp, HaveWorked, Tries, are_placed, steps_in}

-- ---- when it may begin

-- there are so few of them that their requests can be counted
pub record AreFew (bs : List Branch) (cs : List Change) : Type 0 where
  pub branches : length bs ≤ MOST_MANAGERS
  pub changes : length cs ≤ MOST_REQUESTS

-- the plan has room at each branch's manager for the work there, and for what comes after it
abbrev pub HaveRoomToWork : List LedgerView → List Change → List Branch → Type 0
HaveRoomToWork at cs bs = All (λ b. steps_in cs b.m + AFTERWARDS ≤ room_at at b.m) bs

-- The branches may be committed; and there are few changes, each at the manager of a branch, and room for them.
pub record MayBegin (d : DeskView) (log : LogState) (bs : List Branch) (cs : List Change) : Type 0 where
  pub commit : MayCommit d log bs
  pub few : length cs ≤ MOST_REQUESTS
  pub placed : are_placed bs cs ≡ true
  pub room : HaveRoomToWork d.ledgers cs bs

-- ---- what comes of its commit

-- What comes of a commit of these branches, at a point of which the coordinator is to die, or at none: it might be
-- made, and the branches' managers and the log have what it came to.
pub record ComesOfCommit (bs : List Branch) (death : Option Death) (o : CommitOutcome) (desk : DeskView)
    (new : List LedgerView) (log later : LogState) : Type 0 where
  pub may : MayCommit desk log bs
  pub comes : ComesTo AsksLedger PutsLedger death may.tran bs (ledger desk.ledgers) (ledger new) log later o
  pub managers : length new ≡ length desk.ledgers

-- Whether a log is known, after a unit of work that came to this of which it was known before: unless it has lost the
-- record.
abbrev pub LeavesKnown : Type 0 → WorkOutcome → Type 0
LeavesKnown Known (Commit (Undecided votes)) = Known → ⊥
LeavesKnown Known o = Known

-- what holds where the log has lost the record, with these votes
abbrev pub IfLost : (List Code → Type 0) → WorkOutcome → Type 0
IfLost P (Commit (Undecided votes)) = P votes.items
IfLost P o = Unit {0}

-- the log has lost the record that the votes on these branches wanted
abbrev pub LosesRecord : {L : Type 0} → (TranName → List Bool → L → L → Type 0) → List Branch → L → L → List Code
    → Type 0
LosesRecord loses bs old new votes = (t : TranName) → IsTranOf bs t → loses t (yes_of bs votes) old new

-- it was decided to commit
abbrev pub decided_to_commit : WorkOutcome → Bool
decided_to_commit (Commit o) = comes_to_commit o
decided_to_commit (Refused why) = false

-- the coordinator died with it
abbrev pub has_died : WorkOutcome → Bool
has_died (Commit o) = comes_to_death o
has_died (Refused why) = false

-- no unit of work is to follow it with its log: the coordinator died with it, or the log has lost the record
abbrev pub is_last : WorkOutcome → Bool
is_last (Commit o) = ends_the_log o
is_last (Refused why) = false

-- ---- the whole

-- Why it is refused, and what was done: it mightn't begin, and nothing was; or its work was tried, and not all of it
-- answered XA_OK, or the branches might not be committed then, and all were given up.
pub data IsRefused (bs : List Branch) (cs : List Change) (o : WorkOutcome) (old new : DeskView) (log : LogState)
    (Known : Type 0) : Type 0 where
  unbegun : o ≡ Refused NotBegun → (MayBegin old log bs cs → Known → ⊥) → new ≡ old
      → IsRefused bs cs o old new log Known
  undone : (tried : DeskView) → o ≡ Refused GivenUp → MayBegin old log bs cs → Known → Tries cs bs false old tried
      → GivesUp bs tried new → IsRefused bs cs o old new log Known
  barred : (tried : DeskView) → o ≡ Refused GivenUp → MayBegin old log bs cs → Known → Tries cs bs true old tried
      → (MayCommit tried log bs → ⊥) → GivesUp bs tried new → IsRefused bs cs o old new log Known

-- It might begin, all of its work answered XA_OK, and its branches might be committed; but it was given up, for want of
-- memory.
pub record IsGivenUp (bs : List Branch) (cs : List Change) (old new : DeskView) (log : LogState) : Type 0 where
  pub begins : MayBegin old log bs cs
  pub tried : DeskView
  pub worked : Tries cs bs true old tried
  pub may : MayCommit tried log bs
  pub gives_up : GivesUp bs tried new

-- What comes of a unit of work, by a coordinator that is to die at a point of the commit, or at none: all of its work
-- was done, and a commit of its branches came to this; or it is refused for a reason, and only requests for its
-- branches were sent, no Commit among them. `Known` says that the log is known at first.
pub data Transacts (bs : List Branch) (cs : List Change) (death : Option Death) (o : WorkOutcome) (old new : DeskView)
    (log : LogState) (Known : Type 0) (later : LogState) : Type 0 where
  commits : (worked : DeskView) (outcome : CommitOutcome) → o ≡ Commit outcome → MayBegin old log bs cs → Known
      → HaveWorked cs bs old.ledgers worked.ledgers → ComesOfCommit bs death outcome worked new.ledgers log later
      → Transacts bs cs death o old new log Known later
  refused : later ≡ log → IsRefused bs cs o old new log Known → HaveSent (IsFor bs) old.ledgers new.ledgers
      → Transacts bs cs death o old new log Known later
