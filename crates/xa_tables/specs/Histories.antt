-- Histories: the requests of one manager, in the order in which its worker took them.
use Rattle.std.specs.Prelude.{◌≡◌, ℕ, ℤ, pos, ◌+ℤ◌, ◌≤ℤ◌, Bool, true, false, not, ◌||◌, ◌&&◌, ◌==◌, if◌then◌else◌}
use Rattle.std.specs.Prelude.{Option, None, Some, List, [], ◌∷◌, ◌++◌, map, filter, refl}
use Rattle.std.specs.List.{All, filter_map}
use Rattle.std.specs.FinMap as finmap
use Rattle.xa_base.specs.declared.limits.TheConstants.{MOST_VALUE}
use Rattle.xa_words.specs.Codes.{is_done, is_read_only, is_integrity, is_rolled_back}
use Rattle.xa_words.specs.Xid.{XidName, xid_eq}
use Rattle.xa_words.specs.Key.{key_eq}
use Rattle.xa_words.specs.declared.code.Code.{Code}
use Rattle.xa_words.specs.declared.code.Code.TheVariants.{Done}
use Rattle.xa_words.specs.declared.code.Code.TheVariants.{RmFail}
use Rattle.xa_words.specs.declared.request.Op.{Op}
use Rattle.xa_words.specs.declared.request.Op.TheVariants.{Start, Add, Prepare, Commit, Rollback}
use Rattle.xa_words.specs.declared.request.Op.TheVariants.{Heur, Shut}
use Rattle.xa_words.specs.declared.request.StartHow.{StartHow}
use Rattle.xa_words.specs.declared.request.StartHow.TheVariants.{Fresh, Join, Resume}
use Rattle.xa_words.specs.declared.request.Request.{Request}
use Rattle.xa_tables.specs.declared.state.Association.{Association}
use Rattle.xa_tables.specs.declared.state.HeuristicDecision.{HeuristicDecision}
use Rattle.xa_tables.specs.declared.state.HeuristicDecision.TheVariants as decision
use Rattle.xa_tables.specs.declared.state.State.TheVariants.{HeuristicallyCompleted}
use Rattle.xa_tables.specs.ManagerTables.{Tables, association_of, state_of, exists, is_active, is_prepared}
use Rattle.xa_tables.specs.ManagerTables.{is_rollback_only}
use Rattle.xa_tables.specs.ManagerTables.{is_completed, is_somebody_associated}
use Rattle.xa_tables.specs.Next.{next, shut_down}

-- requests in the order in which they were taken
abbrev pub History : Type 0
History = List Request

-- the requests of thread t, in their order
abbrev pub of_thread : ℕ → History → History
of_thread t h = filter (λ r. r.thread == t) h

-- the tables after a history that begins with the tables T
abbrev pub tables_after : History → Tables → Tables
tables_after [] T = T
tables_after (r ∷ h) T = tables_after h (next r.thread r.op T).0

-- each request with its code: what `next` answers after the requests before it
abbrev pub coded : History → Tables → List (Request × Code)
coded [] T = []
coded (r ∷ h) T = (r, (next r.thread r.op T).1) ∷ coded h (next r.thread r.op T).0

-- the code of each request
abbrev pub codes : History → Tables → List Code
codes h T = map (λ e. e.1) (coded h T)

-- ---- the first Shut parts a history

-- the request is a Shut
abbrev pub is_shut : Op → Bool
is_shut Shut = true
is_shut op = false

-- the requests before the first Shut
abbrev pub accepted : History → History
accepted [] = []
accepted (r ∷ h) = if is_shut r.op then [] else r ∷ accepted h

-- the first Shut itself, where there is one
abbrev pub first_shut : History → History
first_shut [] = []
first_shut (r ∷ h) = if is_shut r.op then r ∷ [] else first_shut h

-- the requests after it
abbrev pub late : History → History
late [] = []
late (r ∷ h) = if is_shut r.op then h else late h

-- it parts the history into them
pub parted : (h : History) → h ≡ accepted h ++ (first_shut h ++ late h)
parted [] = refl
parted (r ∷ h) =
    elim (is_shut r.op) as
    (λ b. r ∷ h
    ≡ (if b then [] else r ∷ accepted h) ++ ((if b then r ∷ [] else first_shut h) ++ (if b then h else late h)))
    [ true ↦ refl | false ↦ λ i. r ∷ parted h i ]

-- what a worker carried out, by its journal of requests and codes
abbrev pub carried_out : List (Request × Code) → History
carried_out journal = accepted (map (λ e. e.0) journal)

-- ---- the fate of a branch

-- what became of a branch: it was never started, it is at work, it awaits the outcome, or how it ended, the last two by
-- a heuristic decision
pub data Fate : Type 0 where
  Absent : Fate
  Live : Fate
  InDoubt : Fate
  Committed : Fate
  ReadOnly : Fate
  RolledBack : Fate
  HeurCommitted : Fate
  HeurRolledBack : Fate

-- the table of fates: what a request with this code makes of its branch, if anything
abbrev pub start_fate : StartHow → Code → Option Fate
start_fate Fresh c = if is_done c then Some Live else None
start_fate Join c = None
start_fate Resume c = None

-- Prepare: prepared, gone without a change, or refused
abbrev pub prepare_fate : Code → Option Fate
prepare_fate c =
    if is_done c then Some InDoubt else if is_read_only c then Some ReadOnly else if is_integrity c then Some RolledBack
    else None

-- Commit, in one phase or two: committed or refused
abbrev pub commit_fate : Code → Option Fate
commit_fate c = if is_done c then Some Committed else if is_integrity c then Some RolledBack else None

-- Rollback, with XA_OK or the reason of a rollback-only branch
abbrev pub rollback_fate : Code → Option Fate
rollback_fate c = if is_done c || is_rolled_back c then Some RolledBack else None

-- Heur: it is committed or rolled back, or the request is refused
abbrev pub heur_fate : Bool → Code → Option Fate
heur_fate commits c = if is_done c then Some (if commits then HeurCommitted else HeurRolledBack) else None

-- where the request names x
abbrev pub if_named : XidName → XidName → Option Fate → Option Fate
if_named x y fate = if xid_eq y x then fate else None

-- what a request with this code makes of x, where it stands in the table
abbrev pub fate_of : XidName → Op → Code → Option Fate
fate_of x (Start y how) c = if_named x y (start_fate how c)
fate_of x (Prepare y) c = if_named x y (prepare_fate c)
fate_of x (Commit y one_phase) c = if_named x y (commit_fate c)
fate_of x (Rollback y) c = if_named x y (rollback_fate c)
fate_of x (Heur y commits) c = if_named x y (heur_fate commits c)
fate_of x op c = None

-- the last of a list, f for the empty one
abbrev pub last_or : {A : Type 0} → A → List A → A
last_or f [] = f
last_or f (g ∷ gs) = last_or g gs

-- what requests with their codes make of x, one after another
abbrev pub fates_in : XidName → List (Request × Code) → List Fate
fates_in x es = filter_map (λ e. fate_of x e.0.op e.1) es

-- the fate of x after them, where it was f before: what the last one that stands in the table makes of it
abbrev pub fate_in : XidName → Fate → List (Request × Code) → Fate
fate_in x f es = last_or f (fates_in x es)

-- the fate of x after a history, where it was f before: it is read from the accepted requests
abbrev pub fate : XidName → Fate → History → Tables → Fate
fate x f h T = fate_in x f (coded (accepted h) T)

-- the branch awaits the outcome
abbrev pub is_in_doubt : Fate → Bool
is_in_doubt InDoubt = true
is_in_doubt f = false

-- the branch is at work
abbrev pub is_live : Fate → Bool
is_live Live = true
is_live f = false

-- the branch was started, and hasn't ended
abbrev pub is_unfinished : Fate → Bool
is_unfinished f = is_live f || is_in_doubt f

-- ---- what is added to a key

-- a request that ends its branch: whether it is the committing one
abbrev pub ending_of_fate : Fate → Option Bool
ending_of_fate Committed = Some true
ending_of_fate ReadOnly = Some false
ending_of_fate RolledBack = Some false
ending_of_fate HeurCommitted = Some true
ending_of_fate HeurRolledBack = Some false
ending_of_fate f = None

-- the same, where the request says nothing of the branch: it doesn't end it
abbrev pub ending : Option Fate → Option Bool
ending None = None
ending (Some f) = ending_of_fate f

-- no request of the history ends x
abbrev pub EndsNowhere : XidName → History → Tables → Type 0
EndsNowhere x h T = All (λ e. ending (fate_of x e.0.op e.1) ≡ None) (coded h T)

-- what this request decides, or else the later ones
abbrev pub or_later : Option Bool → Bool → Bool
or_later None later = later
or_later (Some committing) later = committing

-- the first of these requests that ends x commits it; where none ends it, `after` tells whether it commits after them
abbrev pub commits_later : Bool → XidName → List (Request × Code) → Bool
commits_later after x [] = after
commits_later after x (e ∷ es) = or_later (ending (fate_of x e.0.op e.1)) (commits_later after x es)

-- the delta of an Add by a thread with this association, where its branch commits later
abbrev pub added_by : Option Association → ℤ → (XidName → Bool) → ℤ
added_by None d later = pos 0
added_by (Some a) d later = if later a.xid then d else pos 0

-- what a request with this code adds to the key: nothing, unless it is an Add of the key with XA_OK
abbrev pub share_of : List ℕ → Op → Code → Option Association → (XidName → Bool) → ℤ
share_of k (Add own d) c a later = if key_eq own k && is_done c then added_by a d later else pos 0
share_of k op c a later = pos 0

-- the same for the first request of a history, after which `after` tells who commits; its branch is that with which its
-- thread is associated at its place
abbrev pub share : List ℕ → (XidName → Bool) → Request → History → Tables → ℤ
share k after r h T =
    share_of k r.op (next r.thread r.op T).1 (association_of T r.thread)
    (λ x. commits_later (after x) x (coded h (next r.thread r.op T).0))

-- the sum of the shares
abbrev pub added_in : List ℕ → (XidName → Bool) → History → Tables → ℤ
added_in k after [] T = pos 0
added_in k after (r ∷ h) T = share k after r h T +ℤ added_in k after h (next r.thread r.op T).0

-- ---- statements of the laws

-- what became of a branch by a heuristic decision
abbrev pub decided_fate : HeuristicDecision → Fate
decided_fate decision.Commit = HeurCommitted
decided_fate decision.Rollback = HeurRolledBack

-- The tables tell the fate f of x: it is prepared exactly if it is in doubt, it exists exactly while it is unfinished
-- or it is heuristically completed, and then it ended as decided.
pub record IsFateOf (x : XidName) (f : Fate) (T : Tables) : Type 0 where
  pub prepared : is_prepared T x ≡ is_in_doubt f
  pub exists : exists T x ≡ (is_unfinished f || is_completed T x)
  pub decided : (d : HeuristicDecision) → state_of T x ≡ Some (HeuristicallyCompleted d) → f ≡ decided_fate d

-- only a branch that exists and isn't heuristically completed has touched a key
abbrev pub OnlyUnfinishedTouch : XidName → History → Tables → Type 0
OnlyUnfinishedTouch x h T =
    (exists (tables_after h T) x && not (is_completed (tables_after h T) x)) ≡ false → (k : List ℕ)
    → finmap.get (tables_after h T).sums (x, k) ≡ None

-- a branch is active exactly while somebody is associated with it, suspended or not, and it is neither prepared nor
-- rollback-only nor heuristically completed
abbrev pub ActiveWhileAssociated : XidName → History → Tables → Type 0
ActiveWhileAssociated x h T =
    is_active (tables_after h T) x
    ≡ (is_somebody_associated (tables_after h T).associations x
    && not (is_prepared (tables_after h T) x
    || (is_rollback_only (tables_after h T) x || is_completed (tables_after h T) x)))

-- a declared key's value is from 0 to 10^12
abbrev pub StaysWithin : List ℕ → History → Tables → Type 0
StaysWithin k h T = (v : ℤ) → finmap.get (tables_after h T).values k ≡ Some v → (pos 0 ≤ℤ v) × (v ≤ℤ pos MOST_VALUE)

-- late requests add nothing
abbrev pub LateAddNothing : List ℕ → (XidName → Bool) → History → Tables → Type 0
LateAddNothing k after h T = added_in k after (accepted h) T ≡ added_in k after h T

-- the accepted requests have the codes that they have alone, the first Shut is carried out, and the late ones are
-- refused
abbrev pub LateAreRefused : History → Tables → Type 0
LateAreRefused h T = codes h T ≡ codes (accepted h) T ++ (map (λ r. Done) (first_shut h) ++ map (λ r. RmFail) (late h))

-- but for being shut, the tables are those after the accepted requests
abbrev pub LateChangeNothing : History → Tables → Type 0
LateChangeNothing h T = shut_down (tables_after h T) ≡ shut_down (tables_after (accepted h) T)
