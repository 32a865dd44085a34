-- What became of the branches of a commit that came to no end, by the line that shows it: its coordinator died, or an
-- append of its record had an unknown end.
use Rattle.std.specs.Prelude.{◌≡◌, ℕ, ◌+◌, Bool, true, false, Some, All, List, length, slice_get}
use Rattle.std.specs.List.{list_any}
use Rattle.xa_words.specs.Tran.{TranName}
use Rattle.xa_words.specs.declared.code.Code.{Code}
use Rattle.xa_words.specs.declared.code.Code.TheVariants.{Done as OK}
use Rattle.xa_words.specs.declared.death.Death.{Death}
use Rattle.xa_words.specs.declared.death.Death.TheVariants.{Telling, Told}
use Rattle.xa_words.specs.declared.request.Op.TheVariants.{Prepare}
use Rattle.xa_tables.specs.Histories as history
use Rattle.xa_tables.specs.declared.state.HeuristicDecision.{HeuristicDecision}
use Rattle.xa_tables.specs.Histories.{Fate, decided_fate}
use Rattle.xa_switch.specs.Settled.{Settling}
use Rattle.xa_switch.specs.Fates.{history as history_of, settled_fate}
use Rattle.xa_driver.specs.declared.branch.Branch.{Branch}
use Rattle.xa_driver.specs.declared.done.Done.{Done}
use Rattle.xa_driver.specs.declared.done.Ending.{Ending}
use Rattle.xa_driver.specs.declared.done.LastKnown.{LastKnown}
use Rattle.xa_driver.specs.declared.done.LastKnown.TheVariants as known_as
use Rattle.xa_driver.specs.Commits.{is_commit}
use Rattle.xa_driver.specs.Decision.{is_no}
use Rattle.laws_commit.specs.Cut.{is_recorded, is_rollback}
use Rattle.laws_commit.specs.Outcomes.{IsAfterShut, WasAtFirst, WasDecidedAfter, ends_committed, ends_rolled_back}
use Rattle.laws_commit.specs.Resolution.{ended_as}
use Rattle.script_grammar.specs.declared.step.CommitAll.{CommitAll}
use Rattle.script_session.specs.Committing.{branches_of, named}
use Rattle.laws_transcript.specs.Parts.{Part, next_entry}
use Rattle.laws_transcript.specs.Journals.{AddsNone}
use Rattle.laws_shown.specs.Shown.{CountsAsShown, IsAsShown}

-- ---- by the line alone

-- A commit that shows these votes and these endings goes by the record that its thread's log has, or turns out to have,
-- after the line.
pub record IsShownByTheRecord (tran : TranName) (votes : List Code) (endings : List Ending) (old new : Part)
    : Type 0 where
  -- without one, it added no Commit to any journal, and shows no branch as committed
  pub unsent : is_recorded new.log tran ≡ false → (m : ℕ) → AddsNone is_commit (old.entries m) (new.entries m)
  pub uncommitted : is_recorded new.log tran ≡ false → list_any ends_committed endings ≡ false
  -- with one, no vote was against, it added no Rollback, and shows no branch as rolled back
  pub unopposed : is_recorded new.log tran ≡ true → list_any is_no votes ≡ false
  pub kept : is_recorded new.log tran ≡ true → (m : ℕ) → AddsNone is_rollback (old.entries m) (new.entries m)
  pub committed : is_recorded new.log tran ≡ true → list_any ends_rolled_back endings ≡ false

-- ---- what became of its branches

-- The branches were told the decision before their coordinator died at this point.
abbrev pub are_told_by : Death → Bool
are_told_by (Telling k) = true
are_told_by Told = true
are_told_by other = false

-- The branch voted to commit: what the line added first to thread t's entries in the journal of its manager is its
-- Prepare, with XA_OK.
abbrev pub HasAgreed : ℕ → Branch → Part → Part → Type 0
HasAgreed t b old new =
    slice_get (new.entries b.m) (length (old.entries b.m)) ≡ Some (next_entry t (old.entries b.m) (Prepare b.xid) OK)

-- What became of a branch that voted to commit, whose Prepare by thread t has number n, in an opening as which began it
-- had this fate.
pub data EndsByTheRecord (s : Settling) (t : ℕ) (b : Branch) (n : ℕ) (recorded told : Bool) (before : Fate)
    : Type 0 where
  -- it was told the decision, and ended so
  ends : told ≡ true → settled_fate s b.m b.xid before ≡ ended_as recorded
      → EndsByTheRecord s t b n recorded told before
  -- it is in doubt: it wasn't told, or its manager was shut before the place of that request
  doubts : (told ≡ true → IsAfterShut t (n + 1) (history_of s b.m))
      → settled_fate s b.m b.xid before ≡ history.InDoubt → EndsByTheRecord s t b n recorded told before

-- So each branch that voted to commit.
pub record EndByTheRecord (s : Settling) (t : ℕ) (bs : List Branch) (recorded told : Bool) (old new : Part)
    : Type 0 where
  pub each : All
      (λ b. HasAgreed t b old new → (before : Fate) → WasAtFirst s b before
      → EndsByTheRecord s t b (length (old.entries b.m)) recorded told before)
      bs

-- So it ended, or a heuristic decision of it was carried out after its Prepare, and is its fate.
pub data EndsSoOrIsDecided (s : Settling) (t : ℕ) (b : Branch) (n : ℕ) (recorded told : Bool) (before : Fate)
    : Type 0 where
  ends_so : EndsByTheRecord s t b n recorded told before → EndsSoOrIsDecided s t b n recorded told before
  decided : (d : HeuristicDecision) → settled_fate s b.m b.xid before ≡ decided_fate d → WasDecidedAfter s b t n
      → EndsSoOrIsDecided s t b n recorded told before

-- So each branch that voted to commit.
pub record EndSoOrAreDecided (s : Settling) (t : ℕ) (bs : List Branch) (recorded told : Bool) (old new : Part)
    : Type 0 where
  pub each : All
      (λ b. HasAgreed t b old new → (before : Fate) → WasAtFirst s b before
      → EndsSoOrIsDecided s t b (length (old.entries b.m)) recorded told before)
      bs

-- What became of the branches of a commit of thread t whose coordinator died at this point and knew this then, which
-- others may have decided heuristically.
pub record IsAsFarUnlessDecided (s : Settling) (t : ℕ) (c : CommitAll TranName) (at : Death) (known : LastKnown)
    (old new : Part) : Type 0 where
  pub by_record : EndSoOrAreDecided s t (branches_of c) (is_recorded new.log (named c)) (are_told_by at) old new
  pub as_shown : (done : Done) → known ≡ known_as.Told done → IsAsShown s t (branches_of c) old done

-- What became of the branches of a commit of thread t whose coordinator died at this point and knew this then: those
-- that voted to commit ended by the record, and where all have answered the decision, what is shown of each became of
-- it, and the values count what is shown as committed.
pub record IsAsFarAsShown (s : Settling) (t : ℕ) (c : CommitAll TranName) (at : Death) (known : LastKnown)
    (old new : Part) : Type 0 where
  pub by_record : EndByTheRecord s t (branches_of c) (is_recorded new.log (named c)) (are_told_by at) old new
  pub as_shown : (done : Done) → known ≡ known_as.Told done → IsAsShown s t (branches_of c) old done
  pub counts : (done : Done) → known ≡ known_as.Told done → CountsAsShown s t (branches_of c) old done
