-- Which branches the requests of a unit of work name, one after the other.
use Rattle.xa_base.proofs.{chain_kept, arith, ◌≡◌, ℕ, Bool, true, false, List, [], ◌∷◌, ◌++◌, map, Some, refl}
use Rattle.xa_base.proofs.{slice_get, All, All-nil, All-cons, All-head, All-tail, All-append, All-map, all_at, all_from}
use Rattle.xa_base.proofs.{all_left, all_right, all_unmapped, any_at, Option}
use Rattle.xa_base.specs.{Chain}
use Rattle.xa_base.specs.Lists.Chain.{more}
use Rattle.xa_words.specs.{XidName, xid_eq, TMFAIL, Op, Start, Add, End, Rollback, Fresh, Success, Fail, Death}
use Rattle.xa_words.specs.declared.flags.Call.TheVariants as call
use Rattle.xa_tables.specs.{names}
use Rattle.xa_desk.specs.{LedgerView, DeskView, ledger}
use Rattle.xa_driver.specs.{Branch, CommitOutcome, is_commit}
use Rattle.xa_work.specs.{Change, CallsOp, CollectsOp, PutsAtLast, HaveSent, IsFor, CallsFor, CalledOp, CallsBranch}
use Rattle.xa_work.specs.{CallsBranches, GivesUp, Got, HasDoneWork, HaveWorked, Put, Tries, TriesInFlight, changes_at}
use Rattle.xa_work.specs.{in_flight, in_turn, ops_of, requests_of_branches, NamesOnly, ComesOfCommit}
use Rattle.xa_work.specs.Works.CallsBranches.{completed, stopped}
use Rattle.xa_work.proofs.Sent.{call_sent, collect_sent, have_none, have_on, put_sent, op_sent}
use Rattle.xa_work.proofs.Voted.{SentAt, branches_sent, MayAsk, came_each, came_elsewhere}
use Rattle.xa_log.specs.{LogState}

-- ---- one after the other

-- where each step sent only such requests, all did
chain_sent : {X : Type 0} (P : Op → Type 0) (Q : X → Type 0) (R : X → DeskView → DeskView → Type 0)
    → ((x : X) (d e : DeskView) → Q x → R x d e → HaveSent P d.ledgers e.ledgers)
    → (old : DeskView) (xs : List X) (new : DeskView) → Chain R old xs new
    → All Q xs → HaveSent P old.ledgers new.ledgers
chain_sent P Q R so old xs new =
    chain_kept R Q (λ _ (e : DeskView). HaveSent P old.ledgers e.ledgers) old (have_none old.ledgers old.ledgers refl)
    (λ ys y d e before its is. have_on old.ledgers d.ledgers e.ledgers before (so y d e its is)) xs new

-- ---- the requests for these branches

-- the branch is one of these
abbrev pub IsAmong : List Branch → Branch → Type 0
IsAmong bs b = (k : ℕ) × (slice_get bs k ≡ Some b)

-- a request that names this branch alone
is_for : (bs : List Branch) (b : Branch) (o : Op) → IsAmong bs b → is_commit o ≡ false
    → ((y : XidName) → names y o ≡ true → xid_eq b.xid y ≡ true) → IsFor bs o
is_for bs b o (k, at) uncommitting named = search (arith, any_at)

pub ops_for : (cs : List Change) (bs : List Branch) (b : Branch) → IsAmong bs b → All (IsFor bs) (ops_of cs b)
ops_for cs bs b among =
    All-cons (IsFor bs) (Start b.xid Fresh)
    (map (λ (c : Change). Add c.key c.delta) (changes_at cs b.m) ++ End b.xid Success ∷ [])
    (is_for bs b (Start b.xid Fresh) among refl (λ y e. e))
    (All-append (IsFor bs) (map (λ (c : Change). Add c.key c.delta) (changes_at cs b.m)) (End b.xid Success ∷ [])
    (All-map (IsFor bs) (λ (c : Change). Add c.key c.delta) (changes_at cs b.m)
    (λ k c below. record { uncommitting = refl; named = λ y e. cc }))
    (All-cons (IsFor bs) (End b.xid Success) [] (is_for bs b (End b.xid Success) among refl (λ y e. e))
    (All-nil (IsFor bs))))

-- those of some of the branches
pub requests_for : (cs : List Change) (bs left : List Branch) → All (IsAmong bs) left
    → All (λ r. IsFor bs r.1) (requests_of_branches cs left)
requests_for cs bs [] each = All-nil (λ (r : ℕ × Op). IsFor bs r.1)
requests_for cs bs (b ∷ left) each =
    search (
      arith,
      requests_for cs bs left (All-tail (IsAmong bs) b left each),
      All-append,
      All-map,
      ops_for,
      All-head,
      All-tail,
    )

-- ---- the work, and giving it up

module _ (cs : List Change) (bs : List Branch) (each : All (IsAmong bs) bs) where
  flown : (ok : Bool) (old new : DeskView) → TriesInFlight cs bs ok old new
      → HaveSent (IsFor bs) old.ledgers new.ledgers
  flown ok old new t =
      have_on old.ledgers t.begun.ledgers new.ledgers
      (chain_sent (IsFor bs) (λ (p : Put). IsFor bs p.op)
      (λ p d e. PutsAtLast p.flight.manager p.op p.flight.handle d e)
      (λ p d e so put. put_sent (IsFor bs) p.flight.manager p.op p.flight.handle d e so put.puts) old t.puts.puts
      t.begun t.puts.each
      (all_unmapped (λ (p : Put). (p.flight.manager, p.op)) (λ (r : ℕ × Op). IsFor bs r.1) t.puts.puts
      (rw t.puts.wanted_are (requests_for cs bs bs each))))
      (chain_sent (IsFor bs) (λ (g : Got). Unit {0}) (λ g d e. CollectsOp g.flight.manager g.flight.handle g.ok d e)
      (λ g d e _ got. collect_sent (IsFor bs) g.flight.manager g.flight.handle g.ok d e got) t.begun t.collects.gots new
      t.collects.each (λ k g below. tt))

  called_for : (b : Branch) (ok : Bool) (old new : DeskView) → IsAmong bs b → CallsBranch cs b ok old new
      → HaveSent (IsFor bs) old.ledgers new.ledgers
  called_for b ok old new among calls =
      chain_sent (IsFor bs) (λ (c : CalledOp). IsFor bs c.op) (λ c d e. CallsOp b.m c.op c.ok d e)
      (λ c d e so is. op_sent (IsFor bs) b.m c.op c.ok d e so is) old calls.calls new calls.each
      (all_unmapped (λ (c : CalledOp). c.op) (IsFor bs) calls.calls (rw calls.ops_are (ops_for cs bs b among)))

  taken : (ok : Bool) (old new : DeskView) → CallsBranches cs bs ok old new
      → HaveSent (IsFor bs) old.ledgers new.ledgers
  taken ok old new (completed done calls) =
      chain_sent (IsFor bs) (IsAmong bs) (λ b d e. CallsBranch cs b true d e)
      (λ b d e among is. called_for b true d e among is) old bs new calls each
  taken ok old new (stopped before after b mid undone is calls last) =
      let among : All (IsAmong bs) (before ++ b ∷ after) = rw (← is) each in
      have_on old.ledgers mid.ledgers new.ledgers
      (chain_sent (IsFor bs) (IsAmong bs) (λ c d e. CallsBranch cs c true d e)
      (λ c d e in_it is. called_for c true d e in_it is) old before mid calls
      (all_left (IsAmong bs) before (b ∷ after) among))
      (called_for b false mid new
      (All-head (IsAmong bs) b after (all_right (IsAmong bs) before (b ∷ after) among)) last)

  pub tries_sent : (ok : Bool) (old new : DeskView) → Tries cs bs ok old new
      → HaveSent (IsFor bs) old.ledgers new.ledgers
  tries_sent ok old new (in_flight can t) = flown ok old new t
  tries_sent ok old new (in_turn t) = taken ok old new t

module _ (bs : List Branch) (each : All (IsAmong bs) bs) where
  pub gives_up_sent : (old new : DeskView) → GivesUp bs old new → HaveSent (IsFor bs) old.ledgers new.ledgers
  gives_up_sent old new g =
      have_on old.ledgers g.ended.ledgers new.ledgers (chain_sent (IsFor bs) (IsAmong bs) (CallsFor call.End TMFAIL)
      (λ b d e among asks. call_sent (IsFor bs) b.m (End b.xid Fail) asks.0 d e
      (is_for bs b (End b.xid Fail) among refl (λ y z. z)) asks.1) old bs g.ended g.ends each)
      (chain_sent (IsFor bs) (IsAmong bs) (CallsFor call.Rollback 0)
      (λ b d e among asks. call_sent (IsFor bs) b.m (Rollback b.xid) asks.0 d e
      (is_for bs b (Rollback b.xid) among refl (λ y z. z)) asks.1) g.ended bs new g.rolls_back each)

-- each of them is one of them
pub all_among : (bs : List Branch) → All (IsAmong bs) bs
all_among bs = all_from (IsAmong bs) bs (λ k b at. (k, at))

-- and so are those of work that was done
pub worked_for : (cs : List Change) (bs : List Branch) (old new : List LedgerView) → HaveWorked cs bs old new
    → HaveSent (IsFor bs) old new
worked_for cs bs old new w =
    branches_sent (IsFor bs) bs old new
    (all_from (SentAt (λ c. IsFor bs) old new) bs (λ k b at.
    let its : HasDoneWork cs b (ledger old b.m) (ledger new b.m) =
    all_at (λ (c : Branch). HasDoneWork cs c (ledger old c.m) (ledger new c.m)) bs k b w.each at in
    record { more = ops_of cs b; sent = its.sent; each = ops_for cs bs b (k, at); collected = (_, its.collected) }))
    w.others

-- ---- a commit of a unit of work names its branches alone

module _ (bs : List Branch) where
  names_it : (b : Branch) → IsAmong bs b → MayAsk (NamesOnly bs) b.xid
  names_it b (k, at) = search (arith, any_at, b.xid)

  pub comes_named : (death : Option Death) (o : CommitOutcome) (desk : DeskView) (new : List LedgerView)
      (log later : LogState)
      → ComesOfCommit bs death o desk new log later → HaveSent (NamesOnly bs) desk.ledgers new
  comes_named death o desk new log later came =
      branches_sent (NamesOnly bs) bs desk.ledgers new
      (came_each (λ b. NamesOnly bs) (IsAmong bs) names_it desk.ledgers new death came.may.tran bs log later o
      (all_among bs) came.comes)
      (came_elsewhere death came.may.tran bs desk.ledgers new log later o came.comes)
