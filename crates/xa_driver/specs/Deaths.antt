-- What a commit of several branches did whose coordinator died, and what was known of it then.
use Rattle.std.specs.Prelude.{◌≡◌, ◌⊎◌, ℕ, zero, suc, ◌<◌, ◌≤◌, min, Bool, true, false, Option, None, Some, List}
use Rattle.std.specs.Prelude.{[], ◌∷◌, Vec, length}
use Rattle.std.specs.Global.{Global}
use Rattle.std.specs.FinMap as map
use Rattle.xa_words.specs.Tran.{TranName}
use Rattle.xa_words.specs.declared.code.Code.{Code}
use Rattle.xa_words.specs.declared.death.Death.{Death}
use Rattle.xa_words.specs.declared.death.Death.TheVariants as death
use Rattle.xa_words.specs.declared.request.Op.{Op}
use Rattle.xa_words.specs.declared.request.Op.TheVariants.{Prepare}
use Rattle.xa_desk.specs.declared.operation.Operation.{Operation}
use Rattle.xa_desk.specs.LedgerViews.{LedgerView, learnt_shut, with_sent}
use Rattle.xa_desk.specs.DeskViews.{DeskView, ledger}
use Rattle.xa_desk.specs.GoingOn.{GoesOn}
use Rattle.xa_desk.specs.Kept.{AllKept}
use Rattle.xa_calls.specs.Scans.{Asking}
use Rattle.xa_driver.specs.declared.branch.Branch.{Branch}
use Rattle.xa_driver.specs.declared.done.Decision.{Decision}
use Rattle.xa_driver.specs.declared.done.Done.{Done}
use Rattle.xa_driver.specs.declared.done.LastKnown.{LastKnown}
use Rattle.xa_driver.specs.declared.done.LastKnown.TheVariants.{Votes, Decided, Told}
use Rattle.xa_driver.specs.Course.{VotesAndObeys, VotesThen}
use Rattle.xa_driver.specs.Endings.{second_op}
use Rattle.xa_driver.specs.Decision.{yes_of}
use Rattle.xa_driver.specs.Trace.{AppendsOnce, EachBranch, IsDecidedBy, has_branch_at}
use Rattle.xa_driver.specs.UnderWay.{LeavesKept}
use Rattle.xa_log.specs.Log.{LogState}

-- ---- a request that isn't answered

-- A request takes a manager from one state to another as it is put to it: it isn't answered yet, or it is withheld,
-- since the manager is known to be shut.
abbrev pub Putting : Type 0 → Type 1
Putting D = D → Op → D → Type 0

-- so over a desk's ledgers
pub data PutsLedger (a : LedgerView) (op : Op) (a' : LedgerView) : Type 0 where
  sent : learnt_shut a ≡ false → a' ≡ with_sent a op → PutsLedger a op a'
  withheld : learnt_shut a ≡ true → a' ≡ a → PutsLedger a op a'

-- ---- the first round

-- Each branch was put a Prepare, and the first of them have answered with these votes.
abbrev pub HaveAsked : {D : Type 0} → Asking D → Putting D → List Branch → List Code → (ℕ → D) → (ℕ → D) → Type 0
HaveAsked asking putting [] [] old new = Unit {0}
HaveAsked asking putting [] (v ∷ vs) old new = ⊥
HaveAsked asking putting (b ∷ bs) [] old new =
    putting (old b.m) (Prepare b.xid) (new b.m) × HaveAsked asking putting bs [] old new
HaveAsked asking putting (b ∷ bs) (v ∷ vs) old new =
    asking (old b.m) (Prepare b.xid) (new b.m) v × HaveAsked asking putting bs vs old new

-- ---- the second round

-- What is wanted of a manager, if anything is, was put to it: it was answered while there were answers to come, and
-- else it was put and no more.
abbrev pub AsksOrPuts : {D : Type 0} → Asking D → Putting D → ℕ → Option Op → D → D → Type 0
AsksOrPuts asking putting k None old new = new ≡ old
AsksOrPuts asking putting zero (Some op) old new = putting old op new
AsksOrPuts asking putting (suc k) (Some op) old new = (code : Code) × asking old op new code

-- so many answers are to come after it
abbrev pub to_come : Option Op → ℕ → ℕ
to_come None k = k
to_come (Some op) zero = zero
to_come (Some op) (suc k) = k

-- A branch has voted, and was told the decision where it wants it.
abbrev pub VotesAndHears : {D : Type 0} → Asking D → Putting D → Bool → ℕ → Branch → Code → D → D → Type 0
VotesAndHears asking putting commit k = VotesThen asking (AsksOrPuts asking putting k) commit

-- Each branch has voted, and was told the decision where it wants it; so many of those that want it have answered.
abbrev pub HaveTold : {D : Type 0} → Asking D → Putting D → Bool → ℕ → List Branch → List Code → (ℕ → D) → (ℕ → D)
    → Type 0
HaveTold asking putting commit k [] [] old new = Unit {0}
HaveTold asking putting commit k [] (v ∷ vs) old new = ⊥
HaveTold asking putting commit k (b ∷ bs) [] old new = ⊥
HaveTold asking putting commit k (b ∷ bs) (v ∷ vs) old new =
    VotesAndHears asking putting commit k b v (old b.m) (new b.m)
    × HaveTold asking putting commit (to_come (second_op commit b.xid v) k) bs vs old new

-- ---- how far it came

-- So many branches have voted, and nothing was decided.
pub record CameToVotes {D : Type 0} (asking : Asking D) (putting : Putting D) (count : ℕ) (bs : List Branch)
    (old new : ℕ → D) (log later : LogState) (votes : List Code) : Type 0 where
  pub asked : HaveAsked asking putting bs votes old new
  pub counted : length votes ≡ count
  pub unlogged : later ≡ log

-- All have voted, and it was decided; no branch was told.
pub record CameToDecision {D : Type 0} (asking : Asking D) (putting : Putting D) (tran : TranName) (bs : List Branch)
    (old new : ℕ → D) (log later : LogState) (decision : Decision) (votes : List Code) : Type 0 where
  pub asked : HaveAsked asking putting bs votes old new
  pub counted : length votes ≡ length bs
  pub decided : IsDecidedBy tran bs log later votes decision.commit decision.logged

-- It was decided, and all that want the decision were told; so many of them have answered.
pub record CameToAnswers {D : Type 0} (asking : Asking D) (putting : Putting D) (count : ℕ) (tran : TranName)
    (bs : List Branch) (old new : ℕ → D) (log later : LogState) (decision : Decision) (votes : List Code)
    : Type 0 where
  pub told : HaveTold asking putting decision.commit count bs votes old new
  pub decided : IsDecidedBy tran bs log later votes decision.commit decision.logged

-- It was decided, all that want the decision were told, and all have answered. None was told to forget anything.
pub record CameToEndings {D : Type 0} (asking : Asking D) (tran : TranName) (bs : List Branch) (old new : ℕ → D)
    (log later : LogState) (done : Done) : Type 0 where
  pub seconds : List (Option Code)
  pub each : EachBranch (λ b v s e. VotesAndObeys asking done.commit b v s e (old b.m) (new b.m)) bs done.votes.items
      seconds done.endings.items
  pub decided : IsDecidedBy tran bs log later done.votes.items done.commit done.logged

-- How far a commit came whose coordinator died at this point, and what was known of it then.
abbrev pub CameTo : {D : Type 0} → Asking D → Putting D → Death → TranName → List Branch → (ℕ → D) → (ℕ → D) → LogState
    → LogState → LastKnown → Type 0
CameTo asking putting (death.Preparing k) tran bs old new log later (Votes votes) =
    CameToVotes asking putting (min k (length bs)) bs old new log later votes.items
CameTo asking putting death.Prepared tran bs old new log later (Votes votes) =
    CameToVotes asking putting (length bs) bs old new log later votes.items
CameTo asking putting death.Decided tran bs old new log later (Decided decision votes) =
    CameToDecision asking putting tran bs old new log later decision votes.items
CameTo asking putting (death.Telling k) tran bs old new log later (Decided decision votes) =
    CameToAnswers asking putting k tran bs old new log later decision votes.items
CameTo asking putting death.Told tran bs old new log later (Told done) =
    CameToEndings asking tran bs old new log later done
CameTo asking putting at tran bs old new log later known = ⊥

-- What a commit of these branches did whose coordinator died at this point, over states of each manager, and what was
-- known of it then. At other managers it did nothing.
pub record Dies {D : Type 0} (asking : Asking D) (putting : Putting D) (at : Death) (tran : TranName) (bs : List Branch)
    (old new : ℕ → D) (log later : LogState) (known : LastKnown) : Type 0 where
  pub far : CameTo asking putting at tran bs old new log later known
  pub others : (m : ℕ) → 1 ≤ m → has_branch_at bs m ≡ false → new m ≡ old m

-- ---- what it leaves

-- the commit is decided before its coordinator dies at this point
abbrev pub is_decided_by : Death → Bool
is_decided_by (death.Preparing k) = false
is_decided_by death.Prepared = false
is_decided_by other = true

-- What it does to the log itself: what the decision does, if it came to one, and else nothing.
abbrev pub AppendsUntil : {L : Type 0} → (TranName → List Bool → Bool → L → L → Type 0) → TranName → List Branch
    → LastKnown → L → L → Type 0
AppendsUntil appends tran bs (Votes votes) old new = new ≡ old
AppendsUntil appends tran bs (Decided decision votes) old new =
    AppendsOnce appends tran (yes_of bs votes.items) votes.items decision.logged old new
AppendsUntil appends tran bs (Told done) old new =
    AppendsOnce appends tran (yes_of bs done.votes.items) done.votes.items done.logged old new

-- it came to this decision by these votes
abbrev pub KnowsDecision : Decision → Vec Code Global → LastKnown → Type 0
KnowsDecision d vs (Votes votes) = ⊥
KnowsDecision d vs (Decided decision votes) = (decision.logged ≡ d.logged) × (votes ≡ vs)
KnowsDecision d vs (Told done) = (done.logged ≡ d.logged) × (done.votes ≡ vs)

-- how many requests these lists have, manager by manager
abbrev pub sent_so_far : List LedgerView → ℕ → ℕ
sent_so_far at m = length (ledger at m).sent

-- It is a request that was put to the manager of a branch since each had been put so many.
pub record IsOfRound (bs : List Branch) (old new : ℕ → ℕ) (o : Operation) : Type 0 where
  pub manager : has_branch_at bs o.manager ≡ true
  pub later : old o.manager ≤ o.number
  pub sent : o.number < new o.manager

-- The handles that it leaves: what was kept stays, and whatever else is kept is a request of its own.
pub record LeavesHandles (bs : List Branch) (old new : DeskView) : Type 0 where
  pub stays : LeavesKept old new
  pub more : (k : ℕ) (o : Operation) → map.get new.kept k ≡ Some o
      → (map.get old.kept k ≡ Some o) ⊎ IsOfRound bs (sent_so_far old.ledgers) (sent_so_far new.ledgers) o

-- And the desk goes on, and where all that was outstanding was kept under a handle, it still is.
pub record LeavesDesk (bs : List Branch) (old new : DeskView) : Type 0 where
  pub handles : LeavesHandles bs old new
  pub goes_on : GoesOn old new
  pub kept : AllKept old → AllKept new
