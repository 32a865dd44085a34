-- One outcome for each global transaction, over openings one after another: what was left in doubt is resolved by the
-- log.
use Rattle.std.specs.Prelude.{◌≡◌, ◌≢◌, ◌⊎◌, ℕ, ◌≤◌, Bool, true, false, if◌then◌else◌, Option, None, Some, List, []}
use Rattle.std.specs.Prelude.{◌∷◌, ◌++◌, length, map, slice_get}
use Rattle.std.specs.List.{All, Contains, flat_map}
use Rattle.xa_base.specs.declared.limits.TheConstants.{MOST_MANAGERS}
use Rattle.xa_words.specs.Xid.{XidName}
use Rattle.xa_words.specs.Tran.{TranName, tran_of}
use Rattle.xa_words.specs.declared.code.Code.{Code}
use Rattle.xa_words.specs.declared.code.Code.TheVariants.{Done as OK, HeurCom, HeurRb, RmFail}
use Rattle.xa_words.specs.declared.request.Op.{Op}
use Rattle.xa_words.specs.declared.request.Op.TheVariants.{Start, End, Prepare, Commit, Rollback}
use Rattle.xa_words.specs.declared.request.Op.TheVariants.{Forget, Heur}
use Rattle.xa_words.specs.declared.request.Request.{Request}
use Rattle.xa_tables.specs.declared.state.HeuristicDecision.{HeuristicDecision}
use Rattle.xa_tables.specs.ManagerTables.{Tables, is_left as is_left_in, is_prepared}
use Rattle.xa_tables.specs.Reasons.{decision_code}
use Rattle.xa_tables.specs.Histories as history
use Rattle.xa_tables.specs.Histories.{Fate, IsFateOf, decided_fate, is_in_doubt as is_unknown}
use Rattle.xa_tables.specs.Openings.{AreLeft, reopened_fate}
use Rattle.xa_desk.specs.LedgerViews.{LedgerView}
use Rattle.xa_desk.specs.DeskViews.{ledger}
use Rattle.xa_desk.specs.Growth.{HaveGrown}
use Rattle.xa_switch.specs.Settled.{Settling, IsSettled, find_manager}
use Rattle.xa_switch.specs.Fates.{ledgers_of, first_of, history as history_of, settled_fate}
use Rattle.xa_switch.specs.Reopening.{last_in, reopened_at}
use Rattle.xa_scan.specs.Left.{left_at}
use Rattle.xa_driver.specs.declared.branch.Branch.{Branch}
use Rattle.xa_driver.specs.declared.done.Done.{Done}
use Rattle.xa_driver.specs.declared.done.Ending.{Ending}
use Rattle.xa_driver.specs.declared.resolved.Outcome.{Outcome}
use Rattle.laws_commit.specs.Calls.{CommitCall, HasFinished, ResolveCall, after_at, prepare_at}
use Rattle.laws_commit.specs.Cut.{IsCut}
use Rattle.xa_driver.specs.Decision.{is_yes}
use Rattle.xa_log.specs.Log.{Records, all_records, record_in, record_of}
use Rattle.xa_driver.specs.Trace.{IsTranOf}
use Rattle.laws_commit.specs.Outcomes.{EachOutcome, IsBetween, OnlyTheseOrDecisionsName, WasAtFirst}
use Rattle.laws_commit.specs.Outcomes.{has_committed, has_vote_against, told_fate}
use Rattle.xa_driver.specs.Resolving.{IsTraceOfResolve}

-- ---- who used the log

-- a use of the log
pub data Use : Type 0 where
  commits : CommitCall → Use
  resolves : ResolveCall → Use

-- it holds of the use, if that is a commit
abbrev pub OfCommit : (CommitCall → Type 0) → Use → Type 0
OfCommit P (commits c) = P c
OfCommit P (resolves q) = Unit {0}

-- by which thread, and what the thread's desk had sent and collected after it
abbrev pub user : Use → ℕ
user (commits c) = c.thread
user (resolves q) = q.thread

abbrev pub lists_after : Use → List LedgerView
lists_after (commits c) = c.new
lists_after (resolves q) = q.new

-- each is what a commit, its stages and a resolve promise
abbrev pub IsAsPromised : Use → Type 0
IsAsPromised (commits c) = IsCut c
IsAsPromised (resolves q) = IsTraceOfResolve q.scan q.records q.old q.new q.outcomes

-- It was made by a thread of the settled opening, whose lists have grown since.
pub record IsUseIn (s : Settling) (u : Use) : Type 0 where
  pub made : IsAsPromised u
  pub grown : HaveGrown (lists_after u) (ledgers_of s (user u))

-- a thread, whose desk had these lists, is the commit's, and goes on after it
pub record GoesOnAfter (c : CommitCall) (thread : ℕ) (lists : List LedgerView) : Type 0 where
  pub same : thread ≡ c.thread
  pub grown : HaveGrown c.new lists

-- a commit of the same transaction is by the same thread, and after it came to its end
abbrev pub IsByItsThread : CommitCall → Use → Type 0
IsByItsThread c =
    OfCommit
    (λ k. (t : TranName) → IsTranOf c.branches t → IsTranOf k.branches t
    → HasFinished c × GoesOnAfter c k.thread k.desk.ledgers)

-- What the log has of the transaction, use after use: each finds what the one before it left. Of others it may take
-- records, and forget them, between any two.
abbrev pub AreUses : TranName → Records → List Use → Type 0
AreUses t records [] = Unit {0}
AreUses t records (commits c ∷ us) = (record_of c.log t ≡ record_in records t) × AreUses t c.later.records us
AreUses t records (resolves q ∷ us) = (record_in q.records t ≡ record_in records t) × AreUses t records us

-- ---- openings

-- an opening: what it was settled to, and who used the log in it, in their order
pub record Opening : Type 0 where
  pub settled : Settling
  pub uses : List Use

-- it is settled, and each use was made in it
pub record IsKept (o : Opening) : Type 0 where
  pub settled : IsSettled o.settled
  pub uses : All (IsUseIn o.settled) o.uses

-- each manager of the one begins, in the next, with what a reopening makes of its tables
abbrev pub Continues : Settling → Settling → Type 0
Continues s s' = (m : ℕ) (T : Tables) → first_of s m ≡ Some T → first_of s' m ≡ Some (reopened_at s.managers m)

-- each of these openings continues the one before it
abbrev pub AreInARow : Opening → List Opening → Type 0
AreInARow o [] = Unit {0}
AreInARow o (p ∷ ps) = Continues o.settled p.settled × AreInARow p ps

-- the uses of the log in all of them
abbrev pub uses_of : List Opening → List Use
uses_of os = flat_map (λ o. o.uses) os

-- an opening with one use of the log
abbrev pub with_use : Settling → Use → Opening
with_use s u = record { settled = s; uses = u ∷ [] }

-- an opening with these resolves, one for a thread, say
abbrev pub with_resolves : Settling → List ResolveCall → Opening
with_resolves s qs = record { settled = s; uses = map resolves qs }

-- The records are those of several logs, read as one: one has these of its own, and no other has a record of the
-- transaction.
pub record AreOfAllLogs (t : TranName) (own : Records) (records : Records) : Type 0 where
  pub before : List Records
  pub after : List Records
  pub all : records ≡ all_records (before ++ own ∷ after)
  pub alone : All (λ log. record_in log t ≡ None) (before ++ after)

-- ---- what may name a branch

-- the request names a branch of the transaction; one that only asks whether it is left doesn't
abbrev pub NamesTran : TranName → Op → Type 0
NamesTran t (Start x how) = tran_of x ≡ t
NamesTran t (End x how) = tran_of x ≡ t
NamesTran t (Prepare x) = tran_of x ≡ t
NamesTran t (Commit x one_phase) = tran_of x ≡ t
NamesTran t (Rollback x) = tran_of x ≡ t
NamesTran t (Forget x) = tran_of x ≡ t
NamesTran t (Heur x commit) = tran_of x ≡ t
NamesTran t op = ⊥

-- the use is a resolve, and sent this request to manager m
abbrev pub ResolveHasSent : ℕ → Request → Use → Type 0
ResolveHasSent m r (commits c) = ⊥
ResolveHasSent m r (resolves q) = IsBetween q.thread (length (ledger q.old m).sent) (length (ledger q.new m).sent) r

-- no request of the opening but those of resolves with the log names the transaction
abbrev pub OnlyResolves : TranName → Opening → Type 0
OnlyResolves t o =
    (m : ℕ) → All (λ r. NamesTran t r.op → (u : Use)
    × (Contains o.uses u × ResolveHasSent m r u)) (history_of o.settled m)

-- one of these branches is left to the next opening
pub record HasBranchLeft (bs : List Branch) (s : Settling) : Type 0 where
  pub branch : Branch
  pub among : Contains bs branch
  pub left : is_left_in (reopened_at s.managers branch.m) branch.xid ≡ true

-- a branch of the transaction is left to the next opening
abbrev pub HasLeftOf : TranName → Settling → Type 0
HasLeftOf t s = (m : ℕ) × ((x : XidName) × ((tran_of x ≡ t) × (is_left_in (reopened_at s.managers m) x ≡ true)))

-- ---- what became of a branch

-- its fate after these openings, where it was f before them
abbrev pub fate_through : ℕ → XidName → Fate → List Opening → Fate
fate_through m x f [] = f
fate_through m x f (o ∷ os) = fate_through m x (settled_fate o.settled m x (reopened_fate f)) os

-- What became of a branch of opening o, whose fate was `before` as that began: its fate at the end of o; but if it was
-- in doubt then, its fate after the later openings.
abbrev pub became : Branch → Fate → Opening → List Opening → Fate
became b before o later =
    let f : Fate = settled_fate o.settled b.m b.xid before in
    if is_unknown f then fate_through b.m b.xid f later else f

-- a resolve of these openings lists a branch with the heuristic decision
pub record IsListed (b : Branch) (d : HeuristicDecision) (os : List Opening) : Type 0 where
  pub resolve : ResolveCall
  pub made : Contains (uses_of os) (resolves resolve)
  pub outcome : Outcome
  pub listed : Contains resolve.outcomes outcome
  pub manager : outcome.m ≡ b.m
  pub xid : outcome.xid ≡ b.xid
  pub code : outcome.code ≡ decision_code d

-- how a branch ends that is committed, or rolled back
abbrev pub ended_as : Bool → Fate
ended_as commit = if commit then history.Committed else history.RolledBack

-- the last of these openings, and the tables that manager m has as an opening ends
abbrev pub last_of : Opening → List Opening → Opening
last_of o [] = o
last_of o (p ∷ ps) = last_of p ps

abbrev pub tables_left : Opening → ℕ → Tables
tables_left o m = last_in (find_manager m o.settled.managers)

-- A branch that voted to commit ended as was decided, or heuristically, and then its ending or a resolve tells how. So
-- it is no longer in doubt; and where its manager had it prepared as o ended, it hasn't after the last of the later
-- openings.
pub record EndsAs (commit : Bool) (o : Opening) (later : List Opening) (b : Branch) (e : Ending) : Type 0 where
  pub ends : (before : Fate) → WasAtFirst o.settled b before
      → (became b before o later ≡ ended_as commit)
      ⊎ ((d : HeuristicDecision)
      × ((became b before o later ≡ decided_fate d) × ((told_fate e ≡ Some (decided_fate d)) ⊎ IsListed b d later)))
  pub undoubted : (before : Fate) → WasAtFirst o.settled b before → is_unknown (became b before o later) ≡ false
  pub unprepared : is_prepared (tables_left o b.m) b.xid ≡ true
      → is_prepared (tables_left (last_of o later) b.m) b.xid ≡ false

-- so each branch of the commit, which reported `done`
abbrev pub EachEnds : CommitCall → Done → Opening → List Opening → Type 0
EachEnds c done o later =
    EachOutcome (λ b v e. is_yes v ≡ true → EndsAs done.commit o later b e)
    c.branches done.votes.items done.endings.items

-- All or none: it was decided to commit, no vote was against, and all branches that voted to commit are committed; or
-- it was decided to abort, no branch was committed, and they are all rolled back. Those that ended heuristically are
-- listed.
pub data IsAllOrNone (c : CommitCall) (done : Done) (o : Opening) (later : List Opening) : Type 0 where
  all : done.commit ≡ true → has_vote_against done ≡ false → EachEnds c done o later → IsAllOrNone c done o later
  none : done.commit ≡ false → has_committed done ≡ false → EachEnds c done o later → IsAllOrNone c done o later

-- ---- what a resolve tells

-- the fate that an outcome tells: XA_OK that the branch ended as it was to, XA_HEURCOM and XA_HEURRB a decision
abbrev pub outcome_fate : Bool → Code → Option Fate
outcome_fate commit OK = Some (ended_as commit)
outcome_fate commit HeurCom = Some history.HeurCommitted
outcome_fate commit HeurRb = Some history.HeurRolledBack
outcome_fate commit c = None

-- what the outcome tells of its branch is its fate as the opening ends, where that began with the tables T
abbrev pub TellsTheOutcome : Settling → Outcome → Type 0
TellsTheOutcome s r =
    (T : Tables) (before f : Fate) → first_of s r.m ≡ Some T → IsFateOf r.xid before T
    → outcome_fate r.commit r.code ≡ Some f → settled_fate s r.m r.xid before ≡ f

-- so for each of them
abbrev pub TellsTheOutcomes : Settling → List Outcome → Type 0
TellsTheOutcomes s outcomes = All (TellsTheOutcome s) outcomes

-- ---- what that asks for

-- the outcome is of one of the branches
pub record IsOutcomeOf (bs : List Branch) (r : Outcome) : Type 0 where
  pub branch : Branch
  pub among : Contains bs branch
  pub manager : r.m ≡ branch.m
  pub xid : r.xid ≡ branch.xid

-- the branch was asked to prepare: that is the first of what was sent to its manager since
abbrev pub WasAsked : CommitCall → Branch → Type 0
WasAsked c b = slice_get (after_at c b).sent (prepare_at c b) ≡ Some (Prepare b.xid)

-- each branch that was asked to prepare is named by nobody else after that, but for heuristic decisions
abbrev pub AskedAreLeft : CommitCall → Settling → Type 0
AskedAreLeft c s =
    All
    (λ b. WasAsked c b
    → OnlyTheseOrDecisionsName b.xid c.thread (prepare_at c b) (length (after_at c b).sent) (history_of s b.m))
    c.branches

-- An opening o with a commit c, finished or cut short, those between, and the last, with a resolve q.
pub record IsResolved (o : Opening) (between : List Opening) (last : Opening) (c : CommitCall)
    (q : ResolveCall) : Type 0 where
  -- each was settled, and continues the one before it
  pub kept : All IsKept (o ∷ (between ++ last ∷ []))
  pub in_a_row : AreInARow o (between ++ last ∷ [])
  -- the commit is of the first of them, the resolve of the last
  pub us : List Use
  pub vs : List Use
  pub use_at : o.uses ≡ us ++ commits c ∷ vs
  pub ps : List Use
  pub qs : List Use
  pub resolve_at : last.uses ≡ ps ++ resolves q ∷ qs
  -- the desk has no more managers than a record has places for
  pub few : length c.desk.ledgers ≤ MOST_MANAGERS
  -- if one of the branches was left, the log keeps the record of the transaction from the commit on
  pub log : HasBranchLeft c.branches o.settled
      → (t : TranName) → IsTranOf c.branches t → AreUses t c.later.records (vs ++ uses_of (between ++ last ∷ []))
  -- in the first opening nobody commits the transaction after it, but its own thread, where it has finished
  pub its_thread : All (IsByItsThread c) vs
  -- from its Prepares on nobody but the commit names its branches, but for heuristic decisions
  pub own : AskedAreLeft c o.settled
  -- if a branch of the transaction was left, nothing but resolves with the log names it later
  pub later : (t : TranName) → IsTranOf c.branches t → HasLeftOf t o.settled
      → All (OnlyResolves t) (between ++ last ∷ [])
  -- the resolve had the scan of its opening, and reached each branch of the commit that it was to end
  pub scan : (m : ℕ) (T : Tables) → first_of last.settled m ≡ Some T → AreLeft (left_at q.scan m) T
  pub reached : All (λ r. IsOutcomeOf c.branches r → r.code ≢ RmFail) q.outcomes
