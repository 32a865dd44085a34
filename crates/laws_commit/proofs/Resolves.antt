-- What a resolve sent to a manager, and collected from it.
use Rattle.xa_base.proofs.{contains_flat, flat_contains, contains_on, none_there, contains_map, get_contained}
use Rattle.xa_base.proofs.{length-append, Option, ◌≡◌, ◌≢◌, ℕ, suc, ⊎_elim, ◌+◌, ◌-◌, Bool, true, false, List, [], ◌∷◌}
use Rattle.xa_base.proofs.{◌++◌, length, append-nil, append_assoc, get_or, sym, ap, ◌∙◌, subst, arith, Some}
use Rattle.xa_base.proofs.{false_from_ne_true, map, All, Contains, list_any, range_with_len, All-nil, All-cons}
use Rattle.xa_base.proofs.{All-append, length-range_with_len, get_or-range_with_len, any_at, contains_at, same_begins}
use Rattle.xa_base.proofs.{begins_on, was_mapped, at_false, both_ways, Contains-push_cases, Contains-push}
use Rattle.xa_base.proofs.{list_any_none}
use Rattle.xa_words.proofs.Xids.{xid_self}
use Rattle.xa_base.specs.{none, MOST_MANAGERS, Chain, IsUpTo, more}
use Rattle.xa_words.specs.{XidName, xid_eq, Decides-xid_eq, RmFail, Op, OpenRm, CloseRm, Code, Forget}
use Rattle.xa_desk.specs.{LedgerView, learnt_shut, with_sent, with_collected, ledger, HasGrown}
use Rattle.xa_scan.specs.{ScanView, left_at}
use Rattle.xa_driver.specs.{Outcome, AskTrace, asked, AsksLedger, IsTraceOfResolve, ResolvesAt, ResolvesBranch}
use Rattle.xa_driver.specs.{is_to_commit, outcome_op, is_decided, HasSentNone}
use Rattle.xa_log.specs.{Records}
use Rattle.laws_commit.specs.{DidOnly}
use Rattle.xa_driver.proofs.Mapped.{Keeps, keeps, Any, Asks, IsAskedFor, anything, if_mapped, outcome_mapped}
use Rattle.xa_driver.proofs.Mapped.{outcomes_mapped, resolves_mapped}
use Rattle.xa_desk.proofs.Ledgers.{grown_on}
use Rattle.std.proofs.lemmas.Map.Views.{Contains-from_any}
use Rattle.laws_commit.proofs.Guided.{learnt_on}

-- ---- what is sent

pub sends_for : (P Q : Op → Type 0) → ((op : Op) → P op → Q op) → (a a' : LedgerView) → DidOnly P a a' → DidOnly Q a a'
sends_for P Q so a a' z =
    record {
      more = z.more;
      sent = z.sent;
      all = λ k d lt. so (get_or z.more k d) (z.all k d lt);
      collected = z.collected;
    }

module _ (P : Op → Type 0) where
  pub stays : (a : LedgerView) → DidOnly P a a
  stays a = record { more = []; sent = sym (append-nil a.sent); all = All-nil P; collected = same_begins a.collected }

  pub on : (a b c : LedgerView) → DidOnly P a b → DidOnly P b c → DidOnly P a c
  on a b c p q = record {
    more = p.more ++ q.more;
    sent = q.sent ∙ ap (λ l. l ++ q.more) p.sent ∙ append_assoc a.sent p.more q.more;
    all = All-append P p.more q.more p.all q.all;
    collected = begins_on a.collected b.collected c.collected p.collected q.collected;
  }

  pub asked_sends : (a : LedgerView) (op : Option Op) (code : Option Code) → IsAskedFor P op
      → DidOnly P a (asked a op code)
  asked_sends a op code so = search (arith, stays, All-cons, All-nil)

  asks_one : (a a' : LedgerView) (op : Op) (code : Code) → P op → AskTrace (Some op) (Some code) a a' → DidOnly P a a'
  asks_one a a' op code so tr = rw tr.trace (asked_sends a (Some op) (Some code) so)

  pub asks_on : (old a a' : LedgerView) (op : Op) (code : Code) → P op → AsksLedger a op a' code → DidOnly P old a
      → DidOnly P old a'
  asks_on old a a' op code so asked so_far = on old a a' so_far (asks_one a a' op code so asked)

  pub sends_on : (old : LedgerView) → Keeps P AsksLedger (DidOnly P old)
  sends_on old = keeps AsksLedger P (DidOnly P old) (asks_on old)

-- none of what isn't so was sent
pub sent_none : (is : Op → Bool) (a a' : LedgerView) → DidOnly (λ op. is op ≡ false) a a' → HasSentNone is a a'
sent_none is a a' z = record { more = z.more; sent = z.sent; none = list_any_none is z.more z.all }

-- ---- the outcomes of one manager are among all

module _ (z : ScanView) (records : Records) (old new : List LedgerView) (outcomes : List Outcome)
    (trace : IsTraceOfResolve z records old new outcomes) where
  pub of_all : (m : ℕ) → IsUpTo MOST_MANAGERS m → (o : Outcome) → Contains (trace.course.at m) o → Contains outcomes o
  of_all m up o c =
      let same : 1 + (m - 1) ≡ m = omega (arith, up.0) in
      rw trace.course.outcomes_are
      (contains_flat trace.course.at (range_with_len 1 MOST_MANAGERS) m (m - 1)
      (omega (arith, up.0, up.1, length-range_with_len 1 MOST_MANAGERS))
      (get_or-range_with_len 1 MOST_MANAGERS (m - 1) m (omega (arith, up.0, up.1)) ∙ same) o c)

  -- what a resolve sends to a manager
  pub resolve_sends : (P : Op → Type 0) (m : ℕ) → IsUpTo MOST_MANAGERS m → P OpenRm
      → ((o : Outcome) → Contains outcomes o → Asks P records m o)
      → DidOnly P (ledger old m) (ledger new m)
  resolve_sends P m up opens so =
      (resolves_mapped (sends_on P (ledger old m)) records m (left_at z m) (trace.course.at m) (ledger old m)
      (ledger new m) opens (λ o c. so o (of_all m up o c))
      (trace.course.each m up)).on (stays P (ledger old m))

-- ---- the request of one branch

abbrev pub IsNoClose : Op → Type 0
IsNoClose op = op ≢ CloseRm

ends_open : (commit : Bool) (x : XidName) → IsNoClose (outcome_op commit x)
ends_open commit x e = grind arith

-- ---- the lists of one that was asked, and answered

-- an OpenRm was sent, and then, with no CloseRm in between, the request, which was collected with this code
pub record IsAnsweredIn (op : Op) (code : Code) (a : LedgerView) (ops : List Op) (pairs : List (ℕ × Code)) : Type
    0 where
  pub mid : List Op
  pub later : List Op
  pub sent : ops ≡ a.sent ++ OpenRm ∷ (mid ++ op ∷ later)
  pub open_ : All IsNoClose mid
  pub told : Contains pairs (suc (length a.sent) + length mid, code)

-- what was asked and answered in time was sent
sent_so : (a a' : LedgerView) (op : Op) (code : Code) → learnt_shut a ≡ false → AskTrace (Some op) (Some code) a a'
    → a' ≡ with_collected (with_sent a op) (length a.sent) code
sent_so a a' op code open_ tr = tr.trace ∙ at_false (learnt_shut a) _ _ open_

module _ (a opened now decided last : LedgerView) (op : Op) (first code : Code)
    (opens : AskTrace (Some OpenRm) (Some first) a opened)
    (before : DidOnly IsNoClose opened now) (obeys : AskTrace (Some op) (Some code) now decided)
    (grown : HasGrown decided last) (reached : code ≢ RmFail) where
  open_now : learnt_shut now ≡ false
  open_now = false_from_ne_true (learnt_shut now) (λ shut. reached (obeys.answered shut))

  now_sent : now.sent ≡ a.sent ++ OpenRm ∷ before.more
  now_sent =
      search (arith, sent_so, append_assoc, false_from_ne_true, both_ways, open_now, learnt_on, begins_on, asks_one)

  decided_is : decided ≡ with_collected (with_sent now op) (length now.sent) code
  decided_is = sent_so now decided op code open_now obeys

  pub answered_in : IsAnsweredIn op code a last.sent last.collected
  answered_in = record {
    mid = before.more;
    later = grown.sent.0;
    sent = search (arith, decided_is, append_assoc, now_sent);
    open_ = before.all;
    told =
        let number : length now.sent ≡ suc (length a.sent) + length before.more = ap length now_sent
        ∙ (let e = length-append a.sent (OpenRm ∷ before.more) in omega (arith, e)) in
        contains_on decided.collected last.collected (suc (length a.sent) + length before.more, code) grown.collected
        (rw number at
        (subst (λ (l : LedgerView). Contains l.collected (length now.sent, code)) (sym decided_is)
        (Contains-push now.collected (length now.sent, code))));
  }

-- ---- the outcomes of one manager

-- each was asked for as the log says, and if it was answered, its request stands in the lists
pub record IsAsked (records : Records) (m : ℕ) (o : Outcome) (a last : LedgerView) : Type 0 where
  pub manager : o.m ≡ m
  pub decision : o.commit ≡ is_to_commit records m o.xid
  pub answered : o.code ≢ RmFail → IsAnsweredIn (outcome_op o.commit o.xid) o.code a last.sent last.collected

module _ (records : Records) (m : ℕ) (a opened last : LedgerView) (first : Code)
    (opens : AskTrace (Some OpenRm) (Some first) a opened) where
  grows : (c d : LedgerView) → DidOnly Any c d → HasGrown d last → HasGrown c last
  grows c d z = grown_on c d last (record { sent = (z.more, z.sent); collected = z.collected })

  one_asked : (p : Outcome) (now next : LedgerView) → DidOnly IsNoClose opened now
      → ResolvesBranch AsksLedger records m p now next → HasGrown next last
      → IsAsked records m p a last
  one_asked p now next before leads grown = record {
    manager = leads.manager;
    decision = leads.decision;
    answered =
        answered_in a opened now leads.decided last (outcome_op p.commit p.xid) first p.code opens before leads.obeys
        (grows leads.decided next
        ((if_mapped (sends_on Any leads.decided) (is_decided p.code) (Forget p.xid) leads.decided next (λ _. tt)
        leads.forgets).on
        (stays Any leads.decided)) grown);
  }

  chain_asked : (os : List Outcome) (a' : LedgerView) → Chain (ResolvesBranch AsksLedger records m) opened os a'
      → HasGrown a' last → (o : Outcome)
      → Contains os o
      → IsAsked records m o a last
  chain_asked _ _ (none xs z e f) grown o there = absurd (none_there o (rw e at there))
  chain_asked _ _ (more xs p now next chain leads) grown o there =
      ⊎_elim (λ (c : Contains xs o).
      chain_asked xs now chain
      (grows now next ((outcome_mapped (sends_on Any now) records m p now next (anything records m p) leads).on
      (stays Any now)) grown) o c)
      (λ (same : p ≡ o).
      rw same at
      (one_asked p now next
      ((outcomes_mapped (sends_on IsNoClose opened) records m opened xs now
      (λ q _. record { ends = λ _ _. ends_open q.commit q.xid; forgets = λ _ _ e. cc }) chain).on
      (stays IsNoClose opened)) leads grown))
      (Contains-push_cases xs p o there)

at_asked : (records : Records) (m : ℕ) (xs : List XidName) (os : List Outcome) (a a' last : LedgerView)
    → ResolvesAt AsksLedger records m xs os a a'
    → HasGrown a' last → (o : Outcome) → Contains os o → IsAsked records m o a last
at_asked records m [] os a a' last h grown o there = absurd (none_there o (rw h.0 at there))
at_asked records m (x ∷ xs) os a a' last h grown o there =
    chain_asked records m a h.opened last h.code h.opens os a' h.each grown o there

-- a branch that was left has one
has_outcome : (records : Records) (m : ℕ) (x : XidName) (xs : List XidName) (os : List Outcome) (a a' : LedgerView)
    → ResolvesAt AsksLedger records m xs os a a'
    → list_any (xid_eq x) xs ≡ true → (o : Outcome) × (Contains os o × (o.xid ≡ x))
has_outcome records m x [] os a a' h there = cc
has_outcome records m x (y ∷ xs) os a a' h there =
    let c : Contains (map (λ (o : Outcome). o.xid) os) x =
    rw h.xids_are (Contains-from_any (λ p q. (Decides-xid_eq p q).0) x (y ∷ xs) there) in
    let w = was_mapped (λ (o : Outcome). o.xid) os c.0 x (get_contained (map (λ (o : Outcome). o.xid) os) x c) in
    (w.0, (contains_at os c.0 w.0 w.1, w.2))

at_left : (records : Records) (m : ℕ) (xs : List XidName) (os : List Outcome) (a a' : LedgerView)
    → ResolvesAt AsksLedger records m xs os a a' → (o : Outcome)
    → Contains os o → list_any (xid_eq o.xid) xs ≡ true
at_left records m [] os a a' h o there = absurd (none_there o (rw h.0 at there))
at_left records m (x ∷ xs) os a a' h o there =
    let c : Contains (x ∷ xs) o.xid = rw h.xids_are at (contains_map (λ (w : Outcome). w.xid) os o there) in
    any_at (xid_eq o.xid) (x ∷ xs) c.0 o.xid (get_contained (x ∷ xs) o.xid c) (xid_self o.xid)

pub upto_so : (most m : ℕ) → Contains (range_with_len 1 most) m → IsUpTo most m
upto_so most m (k, lt, e) = search (arith, length-range_with_len, get_or-range_with_len)

-- an outcome is of a manager with a number within the limits, and among those of it
module _ (z : ScanView) (records : Records) (old new : List LedgerView) (outcomes : List Outcome)
    (trace : IsTraceOfResolve z records old new outcomes)
    (o : Outcome) (there : Contains outcomes o) where
  pub outcome_at : IsUpTo MOST_MANAGERS o.m × Contains (trace.course.at o.m) o
  outcome_at =
      let w =
      flat_contains trace.course.at (range_with_len 1 MOST_MANAGERS) o (rw trace.course.outcomes_are at there) in
      let among : IsUpTo MOST_MANAGERS w.0 = upto_so MOST_MANAGERS w.0 w.1.0 in
      let own : HasGrown (ledger new w.0) (ledger new w.0) = search (arith, same_begins) in
      let elsewhere =
      at_asked records w.0 (left_at z w.0) (trace.course.at w.0) (ledger old w.0) (ledger new w.0) (ledger new w.0)
      (trace.course.each w.0 among) own o w.1.1 in
      subst (λ k. IsUpTo MOST_MANAGERS k × Contains (trace.course.at k) o) (sym elsewhere.manager) (among, w.1.1)

module _ (z : ScanView) (records : Records) (old new : List LedgerView) (outcomes : List Outcome)
    (trace : IsTraceOfResolve z records old new outcomes) (m : ℕ)
    (up : IsUpTo MOST_MANAGERS m) (last : LedgerView) (grown : HasGrown (ledger new m) last) where
  -- of a branch that was left there is an outcome
  pub left_has : (x : XidName) → list_any (xid_eq x) (left_at z m) ≡ true
      → (o : Outcome) × (Contains outcomes o × ((o.m ≡ m) × (o.xid ≡ x)))
  left_has x there =
      let w =
      has_outcome records m x (left_at z m) (trace.course.at m) (ledger old m) (ledger new m)
      (trace.course.each m up) there in
      let asked =
      at_asked records m (left_at z m) (trace.course.at m) (ledger old m) (ledger new m) last
      (trace.course.each m up) grown w.0 w.1.0 in
      (w.0, (of_all z records old new outcomes trace m up w.0 w.1.0, (asked.manager, w.1.1)))

  at_own : (o : Outcome) → Contains outcomes o → o.m ≡ m → Contains (trace.course.at m) o
  at_own o there own = rw (← own) (outcome_at z records old new outcomes trace o there).1

  -- what an outcome is of was left
  pub outcome_left : (o : Outcome) → Contains outcomes o → o.m ≡ m → list_any (xid_eq o.xid) (left_at z m) ≡ true
  outcome_left o there own =
      at_left records m (left_at z m) (trace.course.at m) (ledger old m) (ledger new m) (trace.course.each m up) o
      (at_own o there own)

  -- each outcome of the manager was asked for
  pub outcome_asked : (o : Outcome) → Contains outcomes o → o.m ≡ m → IsAsked records m o (ledger old m) last
  outcome_asked o there own =
      at_asked records m (left_at z m) (trace.course.at m) (ledger old m) (ledger new m) last (trace.course.each m up)
      grown o (at_own o there own)
