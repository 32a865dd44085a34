-- What a commit of several branches does to its thread's part.
use Rattle.std.specs.Prelude.{◌≡◌, ◌⊎◌, ℕ, zero, suc, ◌-◌, Bool, true, false, Option, Some, None, All, List, [], ◌∷◌}
use Rattle.std.specs.Prelude.{◌++◌, drop, length}
use Rattle.std.specs.List.{Contains}
use Rattle.std.specs.FinMap as finmap
use Rattle.xa_words.specs.declared.code.Code.{Code}
use Rattle.xa_words.specs.declared.code.Code.TheVariants.{RmFail}
use Rattle.xa_words.specs.declared.death.Death.{Death}
use Rattle.xa_words.specs.declared.death.Death.TheVariants.{Preparing, Telling}
use Rattle.xa_words.specs.declared.request.Op.{Op}
use Rattle.xa_desk.specs.declared.operation.Operation.{Operation}
use Rattle.xa_worker.specs.Journal.{Entry, codes_in}
use Rattle.xa_driver.specs.declared.branch.Branch.{Branch}
use Rattle.xa_driver.specs.declared.done.CommitOutcome.{CommitOutcome}
use Rattle.xa_driver.specs.declared.done.CommitOutcome.TheVariants as outcome
use Rattle.xa_driver.specs.declared.done.LastKnown.{LastKnown}
use Rattle.xa_driver.specs.Decision.{yes_of}
use Rattle.xa_driver.specs.Deaths.{IsOfRound, to_come}
use Rattle.xa_driver.specs.Endings.{second_op}
use Rattle.xa_driver.specs.Outcomes.{ComesTo, knows_commit, votes_known}
use Rattle.xa_log.specs.Log.{IsEither, record_of}
use Rattle.xa_words.specs.Tran.{TranName}
use Rattle.script_grammar.specs.declared.step.CommitAll.{CommitAll}
use Rattle.script_transcript.specs.declared.answer.Answer.{Answer}
use Rattle.script_transcript.specs.declared.answer.Answer.TheVariants as answer
use Rattle.script_session.specs.Committing.{named, branches_of}
use Rattle.laws_transcript.specs.Parts.{Part, next_entry, entered_so_far}

-- ---- what is asked of a manager

-- What becomes of what thread t asks of a manager, in the thread's entries of the manager's journal.
pub data CarriesOut (t : ℕ) (old : List Entry) (op : Op) (new : List Entry) (code : Code) : Type 0 where
  -- the manager carries it out, with this code
  carried : new ≡ old ++ next_entry t old op code ∷ [] → CarriesOut t old op new code
  -- it is withheld, which counts as XAER_RMFAIL, since the manager has answered the thread that code before
  withheld : code ≡ RmFail → Contains (codes_in old) RmFail → new ≡ old → CarriesOut t old op new code

-- What becomes of what is put to a manager, whose answer nobody waits for: in a settled opening it is carried out too,
-- with some code.
abbrev pub CarriesOutSome : ℕ → List Entry → Op → List Entry → Type 0
CarriesOutSome t old op new = (code : Code) × CarriesOut t old op new code

-- ---- a commit whose coordinator died

-- These branches, and this one before them if what is wanted of it comes after the k-th that is.
abbrev pub and_if_after : Option Op → ℕ → Branch → List Branch → List Branch
and_if_after None k b bs = bs
and_if_after (Some op) zero b bs = b ∷ bs
and_if_after (Some op) (suc k) b bs = bs

-- Those of the branches that were told the decision after the k-th that was.
abbrev pub told_after : Bool → ℕ → List Branch → List Code → List Branch
told_after commit k [] votes = []
told_after commit k (b ∷ bs) [] = []
told_after commit k (b ∷ bs) (v ∷ vs) =
    and_if_after (second_op commit b.xid v) k b (told_after commit (to_come (second_op commit b.xid v) k) bs vs)

-- The branches whose last request is in flight as their coordinator dies at this point, which knew this.
abbrev pub in_flight_at : Death → List Branch → LastKnown → List Branch
in_flight_at (Preparing k) bs known = drop (length (votes_known known)) bs
in_flight_at (Telling k) bs known = told_after (knows_commit known) k bs (votes_known known)
in_flight_at other bs known = []

-- The last request to the branch's manager is kept under a handle; or nothing was put to the manager, since it had
-- answered the thread XAER_RMFAIL.
abbrev pub IsKeptUnlessShut : Part → Part → Branch → Type 0
IsKeptUnlessShut old new b =
    ((k : ℕ) × (finmap.get new.handles k ≡ Some (record { manager = b.m; number = length (new.entries b.m) - 1 })))
    ⊎ Contains (codes_in (old.entries b.m)) RmFail

-- The handles that a dead coordinator leaves: what was kept stays, what is in flight is kept, and whatever else is kept
-- is a request of its own.
pub record KeepsInFlight (at : Death) (bs : List Branch) (known : LastKnown) (old new : Part) : Type 0 where
  pub stays : (k : ℕ) (o : Operation) → finmap.get old.handles k ≡ Some o → finmap.get new.handles k ≡ Some o
  pub all : All (IsKeptUnlessShut old new) (in_flight_at at bs known)
  pub more : (k : ℕ) (o : Operation) → finmap.get new.handles k ≡ Some o
      → (finmap.get old.handles k ≡ Some o) ⊎ IsOfRound bs (entered_so_far old) (entered_so_far new) o

-- ---- a commit

-- The handles that it leaves, by what it came to: as they were, but for those of a dead coordinator.
abbrev pub KeepsHandles : List Branch → Part → Part → CommitOutcome → Type 0
KeepsHandles bs old new (outcome.Died at known) = KeepsInFlight at bs known old new
KeepsHandles bs old new other = new.handles ≡ old.handles

-- Whether its log is known afterwards. Where nobody knows whether it has the record, it turns out to have it or not: so
-- it is as the next opening begins, and until then it is lost from sight.
abbrev pub LeavesTheLog : TranName → List Branch → Part → Part → CommitOutcome → Type 0
LeavesTheLog tran bs old new (outcome.Undecided votes) =
    (new.is_lost ≡ true) × IsEither old.log new.log tran (yes_of bs votes.items)
LeavesTheLog tran bs old new other = new.is_lost ≡ false

-- What a commit does to thread t's part where this came of it: its course over the thread's entries, one list for each
-- manager, of a transaction that isn't logged yet, in a log that is known.
pub record TakesCommit (t : ℕ) (c : CommitAll TranName) (o : CommitOutcome) (old new : Part) : Type 0 where
  pub course : ComesTo (CarriesOut t) (CarriesOutSome t) c.death (named c) (branches_of c) old.entries new.entries
      old.log new.log o
  pub nowhere : new.entries 0 ≡ old.entries 0
  pub unlogged : record_of old.log (named c) ≡ None
  pub handles : KeepsHandles (branches_of c) old new o
  pub known : old.is_lost ≡ false
  pub log : LeavesTheLog (named c) (branches_of c) old new o
  pub scan : new.scan ≡ old.scan

-- What a line of a commit does to thread t's part: nothing where it is refused.
pub data CommitTakes (t : ℕ) (c : CommitAll TranName) (a : Answer) (old new : Part) : Type 0 where
  refused : a ≡ answer.Refused → new ≡ old → CommitTakes t c a old new
  commits : (o : CommitOutcome) → a ≡ answer.Commit o → TakesCommit t c o old new → CommitTakes t c a old new
