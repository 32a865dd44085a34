-- Branches that are left alone, prepared ones above all: what leaves them as they are, and what they answer.
use Rattle.std.specs.Prelude.{◌≡◌, ℕ, Bool, true, false, ◌&&◌, ◌||◌, ◌==◌, if◌then◌else◌, Option, None, Some, List}
use Rattle.std.specs.Prelude.{[], ◌∷◌}
use Rattle.std.specs.List.{All, list_any}
use Rattle.std.specs.FinMap as map
use Rattle.xa_words.specs.Xid.{XidName, xid_eq}
use Rattle.xa_words.specs.declared.code.Code.{Code}
use Rattle.xa_words.specs.declared.code.Code.TheVariants.{Done, RmFail}
use Rattle.xa_words.specs.declared.request.Op.{Op}
use Rattle.xa_words.specs.declared.request.Op.TheVariants.{CloseRm, Start, End, Prepare, Commit, Rollback}
use Rattle.xa_words.specs.declared.request.Op.TheVariants.{Forget, Heur}
use Rattle.xa_words.specs.declared.request.Request.{Request}
use Rattle.xa_tables.specs.declared.state.State.{State}
use Rattle.xa_tables.specs.declared.state.State.TheVariants.{Prepared, HeuristicallyCompleted}
use Rattle.xa_tables.specs.declared.state.HeuristicDecision.{HeuristicDecision}
use Rattle.xa_tables.specs.ManagerTables.{Tables, state_of, is_somebody_associated}
use Rattle.xa_tables.specs.Reasons.{decision_code}
use Rattle.xa_tables.specs.Next.{TablesAndCode, next}
use Rattle.xa_tables.specs.Histories.{History, Fate, is_shut, coded, tables_after, fates_in, decided_fate}

-- the request names the branch; one that only asks whether it is left doesn't
abbrev pub names : XidName → Op → Bool
names x (Start y how) = xid_eq y x
names x (End y how) = xid_eq y x
names x (Prepare y) = xid_eq y x
names x (Commit y one_phase) = xid_eq y x
names x (Rollback y) = xid_eq y x
names x (Forget y) = xid_eq y x
names x (Heur y commits) = xid_eq y x
names x op = false

-- no request of the history names the branch
abbrev pub NamesNowhere : XidName → History → Type 0
NamesNowhere x h = All (λ r. names x r.op ≡ false) h

-- the request is a CloseRm
abbrev pub is_close : Op → Bool
is_close CloseRm = true
is_close op = false

-- the request is thread t's CloseRm
abbrev pub closes : ℕ → Request → Bool
closes t r = is_close r.op && (r.thread == t)

-- the request is a heuristic decision
abbrev pub is_heur : Op → Bool
is_heur (Heur x commits) = true
is_heur op = false

-- the request is a Forget
abbrev pub is_forget : Op → Bool
is_forget (Forget x) = true
is_forget op = false

-- each request of the history that names the branch is a heuristic decision or a Forget
abbrev pub OnlyDecides : XidName → History → Type 0
OnlyDecides x h = All (λ r. names x r.op ≡ true → (is_heur r.op || is_forget r.op) ≡ true) h

-- each that names it is a heuristic decision, and none is a CloseRm of thread t
abbrev pub LeavesWaiting : ℕ → XidName → History → Type 0
LeavesWaiting t x h = All (λ r. (names x r.op ≡ true → is_heur r.op ≡ true) × (closes t r ≡ false)) h

-- a Shut is among the requests of the history
abbrev pub has_shut : History → Bool
has_shut h = list_any (λ r. is_shut r.op) h

-- the branch is in the state that it was in, its sum of each key is what it was, and nobody is associated with it
pub record StaysAsItWas (x : XidName) (T T' : Tables) : Type 0 where
  pub state : state_of T' x ≡ state_of T x
  pub sums : (k : List ℕ) → map.get T'.sums (x, k) ≡ map.get T.sums (x, k)
  pub apart : is_somebody_associated T'.associations x ≡ false

-- the branch is prepared
abbrev pub IsPrepared : XidName → Tables → Type 0
IsPrepared x T = state_of T x ≡ Some Prepared

-- the branch is prepared still, and each key that it touched has the sum that it had
pub record StaysPrepared (x : XidName) (T T' : Tables) : Type 0 where
  pub prepared : IsPrepared x T'
  pub sums : (k : List ℕ) → map.get T'.sums (x, k) ≡ map.get T.sums (x, k)

-- ---- the outcome

-- the state of a branch that was prepared, and then decided heuristically or not
abbrev pub state_when : Option HeuristicDecision → State
state_when None = Prepared
state_when (Some d) = HeuristicallyCompleted d

-- what its outcome is answered
abbrev pub answer_when : Option HeuristicDecision → Code
answer_when None = Done
answer_when (Some d) = decision_code d

-- what the requests since its Prepare made of it
abbrev pub fates_when : Option HeuristicDecision → List Fate
fates_when None = []
fates_when (Some d) = decided_fate d ∷ []

-- The branch is prepared, or it was decided heuristically, and thread t may end it: its Commit in two phases and its
-- Rollback are carried out, or answered with the decision, unless the manager is shut.
pub record AwaitsTheOutcome (t : ℕ) (x : XidName) (decision : Option HeuristicDecision) (T : Tables) : Type 0 where
  pub state : state_of T x ≡ Some (state_when decision)
  pub commits : (next t (Commit x false) T).1 ≡ (if T.shut then RmFail else answer_when decision)
  pub rolls_back : (next t (Rollback x) T).1 ≡ (if T.shut then RmFail else answer_when decision)

-- so after the requests g, from the tables T on that its Prepare left: whether one of them decided it is its fate
pub record AwaitsAfter (t : ℕ) (x : XidName) (g : History) (T : Tables) : Type 0 where
  pub decision : Option HeuristicDecision
  pub fates : fates_in x (coded g T) ≡ fates_when decision
  pub awaits : AwaitsTheOutcome t x decision (tables_after g T)

-- a request with the answer `a` was told the heuristic decision d: the branch is completed with it, and nothing changed
pub record IsToldDecision (x : XidName) (d : HeuristicDecision) (T : Tables) (a : TablesAndCode) : Type 0 where
  pub state : state_of T x ≡ Some (HeuristicallyCompleted d)
  pub unchanged : a.0 ≡ T
