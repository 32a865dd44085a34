-- What requests to managers do to a desk, one by one and in a round.
use Rattle.xa_base.proofs.{◌≡◌, ℕ, ◌+◌, ◌-◌, List, length, arith, suc, [], ◌∷◌, refl, ◌≢◌, ◌≤◌, if◌then◌else◌, Option}
use Rattle.xa_base.proofs.{None, Some, sym, ap, ◌∙◌, at_false, at_true, ◌<◌, true, false, ◌||◌, ◌==◌, map, get_or, set}
use Rattle.xa_base.proofs.{zero, length-append, All, All-nil, All-cons, All-head, All-tail, eqb-true, ne_eqb, inl, inr}
use Rattle.xa_base.proofs.{cases_Bool, Bool, nat_eq, eqb-false, or_parts, or_from, cases_eq, by_if, sum_by-set}
use Rattle.xa_desk.specs.{LedgerView, IsKnown, ledger, no_ledger, put_ledger, outstanding, numbered, Operation}
use Rattle.xa_desk.specs.{learnt_shut, with_sent, with_collected, TicketView, after_collected, Collects, DeskView}
use Rattle.xa_desk.specs.{is_collected, IsOut, AllKept, LeavesTickets, HasGrown}
use Rattle.xa_words.specs.{Op, Code}
use Rattle.xa_desk.proofs.GoingOn.{goes_same, goes_further, goes_collecting}
use Rattle.xa_desk.proofs.Ledgers.{ledger-put_same, ledger-put_other, is_collected-push, known_by, length-put_ledger}
use Rattle.xa_desk.proofs.Ledgers.{as_it_was}
use Rattle.xa_driver.specs.{Ask, KeepsDesk, IsSending, BeginsAsk, EndsAsk, asked, EachAsk, among_asks, SameAsks}
use Rattle.xa_driver.specs.{IsSameAsk, AreRising, KeepsTheRest, LeavesOutstanding, Branch, Ending, AskTrace, AsksFor}
use Rattle.xa_driver.specs.{AtBranch, second_op, third_op, AsksLedger, AllCanAsk}
use Rattle.std.proofs.lemmas.List.{map-id}
use Rattle.std.specs.Prelude.{fold}
use Rattle.xa_driver.specs.Asks.{Asks}

-- how many requests of a ledger are outstanding
abbrev pub open_count : LedgerView → ℕ
open_count a = length a.sent - length a.collected

pub numbered_length : (t n : ℕ) (xs : List Op) → length (numbered t n xs) ≡ length xs
numbered_length t n [] = refl
numbered_length t n (x ∷ xs) = let e = numbered_length t (suc n) xs in omega (arith, e)

-- ---- what a request to one manager does to a desk

-- what one request does to a desk
pub record Moved (m : ℕ) (a' : LedgerView) (old new : DeskView) : Type 0 where
  pub here : ledger new.ledgers m ≡ a'
  pub others : (n : ℕ) → 1 ≤ n → n ≢ m → ledger new.ledgers n ≡ ledger old.ledgers n
  pub managers : length new.ledgers ≡ length old.ledgers
  pub open_ : outstanding new.ledgers + open_count (ledger old.ledgers m) ≡ outstanding old.ledgers + open_count a'
  pub keeps : KeepsDesk old new

pub keeps_start : (d : DeskView) → KeepsDesk d d
keeps_start d = record { goes_on = goes_same d; kept = refl }

pub keeps_chain : (a b c : DeskView) → KeepsDesk a b → KeepsDesk b c → KeepsDesk a c
keeps_chain a b c p q = record { goes_on = goes_further a b c p.goes_on q.goes_on; kept = q.kept ∙ p.kept }

unmoved : (m : ℕ) (a' : LedgerView) (old new : DeskView) → new ≡ old → ledger old.ledgers m ≡ a' → Moved m a' old new
unmoved m a' old new e h =
    rw e (record {
      here = h;
      others = λ n p q. refl;
      managers = refl;
      open_ = ap (λ (a : LedgerView). outstanding old.ledgers + open_count a) h;
      keeps = keeps_start old;
    })

-- one ledger was written, and nothing else that counts
pub put_moved : (m : ℕ) (a' : LedgerView) (old new : DeskView) → IsKnown old.ledgers m
    → new.ledgers ≡ put_ledger old.ledgers m a' → KeepsDesk old new
    → Moved m a' old new
put_moved m a' old new known e keeps =
    search (
      arith,
      ledger-put_same,
      ledger-put_other,
      length-put_ledger,
      open_count,
      old.ledgers,
      known.positive,
      sum_by-set,
    )

-- a request is sent where its manager isn't learnt to be shut
abbrev pub sent_by : LedgerView → Option Op → LedgerView
sent_by a None = a
sent_by a (Some op) = if learnt_shut a then a else with_sent a op

pub began_moved : (k : Ask) (old new : DeskView) (r : Option TicketView) → IsKnown old.ledgers k.manager
    → BeginsAsk k old new r
    → Moved k.manager (sent_by (ledger old.ledgers k.manager) k.op) old new
began_moved k old new None known b = search (arith, unmoved, k.manager, b.0, old.ledgers, k.op, at_true)
began_moved k old new (Some t) known b =
    let a : LedgerView = ledger old.ledgers k.manager in
    let is : with_sent a b.op ≡ sent_by a k.op =
    sym (at_false (learnt_shut a) _ _ b.open_) ∙ ap (sent_by a) (sym b.wanted) in
    rw is at (put_moved k.manager (with_sent a b.op) old new known b.sent b.keeps)

-- a request that was sent stands in its manager's ledger
pub sent_is : (k : Ask) (t : TicketView) (d d' : DeskView) → IsKnown d.ledgers k.manager → (b : IsSending k d d' t)
    → ledger d'.ledgers k.manager ≡ with_sent (ledger d.ledgers k.manager) b.op
sent_is k t d d' known b =
    ap (λ l. ledger l k.manager) b.sent
    ∙ ledger-put_same d.ledgers k.manager (with_sent (ledger d.ledgers k.manager) b.op) known

pub collected_keeps : (old new : DeskView) (o : Operation) (c : Code) → Collects old new o c → KeepsDesk old new
collected_keeps old new o c x =
    record {
      goes_on = goes_collecting old new o c x;
      kept = ap (λ (d : DeskView). d.kept) x.collected
          ∙ ap (λ (d : DeskView). d.kept) x.looks.rest;
    }

unfoldable pub collected_of : (a : LedgerView) (r : Option TicketView) (code : Option Code) → LedgerView
collected_of a None code = a
collected_of a (Some t) None = a
collected_of a (Some t) (Some c) = with_collected a t.operation.number c

pub ended_moved : (k : Ask) (old new : DeskView) (r : Option TicketView) (code : Option Code)
    → ((t : TicketView) → r ≡ Some t → t.operation.manager ≡ k.manager) → IsKnown old.ledgers k.manager
    → EndsAsk k old new r code
    → Moved k.manager (collected_of (ledger old.ledgers k.manager) r code) old new
unfolding collected_of
ended_moved k old new None code at known e = unmoved k.manager (ledger old.ledgers k.manager) old new e.0 refl
ended_moved k old new (Some t) code at known (c, (is, x)) =
    let written : new.ledgers ≡ after_collected old.ledgers t.operation c = grind arith in
    rw is
    (put_moved k.manager (with_collected (ledger old.ledgers k.manager) t.operation.number c) old new known
    (rw (at t refl) at written) (collected_keeps old new t.operation c x))

-- ---- the same requests

pub same_itself : (ks : List Ask) → SameAsks ks ks
same_itself [] = tt
same_itself (k ∷ ks) = (record { manager = refl; xid = refl; vote = refl; op = refl }, same_itself ks)

pub same_set : (js ks : List Ask) (n : ℕ) (k k1 : Ask) → k ≡ get_or ks n k → IsSameAsk k k1 → SameAsks js ks
    → SameAsks js (set ks n k1)
same_set [] [] n k k1 is one s = tt
same_set (j ∷ js) (l ∷ ks) zero k k1 is one s = search (arith, s.0)
same_set (j ∷ js) (l ∷ ks) (suc n) k k1 is one s = (s.0, same_set js ks n k k1 is one s.1)
same_set _ _ _ k k1 is one s = absurd s

-- what of requests hangs on their managers alone
pub record Alike (js ks : List Ask) : Type 0 where
  pub long : length ks ≡ length js
  pub among : (m : ℕ) → among_asks ks m ≡ among_asks js m
  pub rising : (lo : ℕ) → AreRising lo js → AreRising lo ks
  pub can : (at : List LedgerView) → AllCanAsk js at → AllCanAsk ks at

-- of requests that were remade for the same managers
pub remade_alike : (f : Ask → Ask) → ((k : Ask) → (f k).manager ≡ k.manager) → (ks js : List Ask)
    → SameAsks (map f ks) js → Alike ks js
remade_alike f same [] [] s = record { long = refl; among = λ m. refl; rising = λ lo r. r; can = λ at c. c }
remade_alike f same (k ∷ ks) (j ∷ js) s =
    let rest = remade_alike f same ks js s.1 in
    let here : j.manager ≡ k.manager = s.0.manager ∙ same k in
    record {
      long = ap suc rest.long;
      among = λ m i. (here i == m) || rest.among m i;
      rising = λ lo r. rw here (r.0, rest.rising k.manager r.1);
      can = λ at c. rw here (c.0, rest.can at c.1);
    }
remade_alike f same _ _ s = absurd s

pub same_alike : (js ks : List Ask) → SameAsks js ks → Alike js ks
same_alike js ks s = remade_alike (λ k. k) (λ k. refl) js ks (rw (map-id js) s)

-- what holds of each that it is asked for holds of what is asked
pub carried : {A : Type 0} (f : A → Ask) (P : A → Type 0) (Q : Ask → Type 0)
    → ((a : A) (k : Ask) → IsSameAsk (f a) k → P a → Q k)
    → (xs : List A) (ks : List Ask) → SameAsks (map f xs) ks → All P xs → All Q ks
carried f P Q so [] [] s all = All-nil Q
carried f P Q so (x ∷ xs) (k ∷ ks) s all =
    All-cons Q k ks (so x k s.0 (All-head P x xs all)) (carried f P Q so xs ks s.1 (All-tail P x xs all))
carried f P Q so _ _ s all = absurd s

-- what rises after a manager doesn't reach it
pub behind : (lo m : ℕ) (ks : List Ask) → m ≤ lo → AreRising lo ks → among_asks ks m ≡ false
behind lo m [] h r = refl
behind lo m (k ∷ ks) h r = grind (arith, behind k.manager m ks (omega arith) r.1, ne_eqb)

-- what was sent was collected, so as many operations are outstanding as before
pub open_asked : (a : LedgerView) (op : Option Op) (code : Option Code) → open_count (asked a op code) ≡ open_count a
open_asked a op code = grind (arith, open_count, length-append)

-- what any request does to a ledger, those of a round do to that of each of their managers
module _ (R : LedgerView → LedgerView → Type 0)
    (one : (a : LedgerView) (op : Option Op) (code : Option Code) → R a (asked a op code)) where
  pub asks_there : (ks : List Ask) (at at' : List LedgerView) (m : ℕ) → EachAsk ks at at' → among_asks ks m ≡ true
      → R (ledger at m) (ledger at' m)
  asks_there [] at at' m e there = absurd (cc)
  asks_there (k ∷ ks) at at' m e there = elim (cases_Bool (k.manager == m)) [
    | inl here ↦ rw (← e.0.trace, eqb-true k.manager m here) at (one (ledger at k.manager) k.op k.code)
    | inr other ↦ asks_there ks at at' m e.1 (ap (λ c. c || among_asks ks m) (sym other) ∙ there)
  ]

  -- and nothing to the others
  pub asks_at : (ks : List Ask) (at at' : List LedgerView) (m : ℕ) → 1 ≤ m → Asks ks at at'
      → R (ledger at m) (ledger at' m)
  asks_at ks at at' m p is = elim (cases_Bool (among_asks ks m)) [
    | inl there ↦ asks_there ks at at' m is.each there
    | inr elsewhere ↦ rw (is.others m p elsewhere) (one (ledger at m) None None)
  ]

same_sum : (f : LedgerView → ℕ) (d : LedgerView) (a b : ℕ) (xs ys : List LedgerView) → a ≡ b → length ys ≡ length xs
    → ((i : ℕ) → i < length xs → f (get_or ys i d) ≡ f (get_or xs i d))
    → fold (λ n x. n + f x) a ys ≡ fold (λ n x. n + f x) b xs
same_sum f d a b [] [] e l h = e
same_sum f d a b [] (y ∷ ys) e l h = absurd (omega arith)
same_sum f d a b (x ∷ xs) [] e l h = absurd (omega arith)
same_sum f d a b (x ∷ xs) (y ∷ ys) e l h =
    same_sum f d (a + f y) (b + f x) xs ys (let z = h 0 (omega arith) in omega arith) (omega arith)
    (λ i lt. h (suc i) (omega arith))

pub as_many_open : (ks : List Ask) (at at' : List LedgerView) → Asks ks at at' → outstanding at' ≡ outstanding at
as_many_open ks at at' h = same_sum open_count no_ledger 0 0 at at' refl h.managers (λ i lt.
    let back : i + 1 - 1 ≡ i = omega arith in
    rw back at (asks_at (λ a a'. open_count a' ≡ open_count a) open_asked ks at at' (i + 1) (omega arith) h))

-- ---- what is outstanding

-- the request of this number was sent and not collected
pub record IsOpen (n : ℕ) (a : LedgerView) : Type 0 where
  pub sent : n < length a.sent
  pub open_ : is_collected a n ≡ false

-- a request that is sent and collected leaves what is open, and opens nothing
pub asked_leaves : (n : ℕ) (a : LedgerView) (op : Option Op) (code : Option Code) → IsOpen n a
    → IsOpen n (asked a op code)
asked_leaves n a None code h = h
asked_leaves n a (Some op) None h = h
asked_leaves n a (Some op) (Some c) h =
    search (arith, length-append, is_collected-push, or_from, ne_eqb, h.sent, a.sent, h.open_)

pub asked_opens : (n : ℕ) (a : LedgerView) (op : Option Op) (code : Option Code) → IsOpen n (asked a op code)
    → IsOpen n a
asked_opens n a None code h = h
asked_opens n a (Some op) None h = h
asked_opens n a (Some op) (Some code) h = search (arith, or_parts, nat_eq, is_collected-push, eqb-false, length-append)

pub out_by : (at at' : List LedgerView) (o : Operation) → length at' ≡ length at
    → (IsOpen o.number (ledger at o.manager) → IsOpen o.number (ledger at' o.manager)) → IsOut at o → IsOut at' o
out_by at at' o managers opens out =
    let h = opens (record { sent = out.sent; open_ = out.open_ }) in
    record { known = known_by at at' o.manager managers out.known; sent = h.sent; open_ = h.open_ }

asks_leave_outstanding : (ks : List Ask) (at at' : List LedgerView) → Asks ks at at' → LeavesOutstanding at at'
asks_leave_outstanding ks at at' is o out =
    out_by at at' o is.managers
    (asks_at (λ a a'. IsOpen o.number a → IsOpen o.number a') (asked_leaves o.number) ks at at' o.manager
    out.known.positive is) out

out_before : (ks : List Ask) (at at' : List LedgerView) → Asks ks at at' → LeavesOutstanding at' at
out_before ks at at' is o out =
    out_by at' at o (sym is.managers)
    (asks_at (λ a a'. IsOpen o.number a' → IsOpen o.number a) (asked_opens o.number) ks at at' o.manager
    out.known.positive is) out

asks_keep : (ks : List Ask) (old new : DeskView) → Asks ks old.ledgers new.ledgers → KeepsDesk old new → AllKept old
    → AllKept new
asks_keep ks old new is keeps all = search (arith, out_before, all.each, old.ledgers, new.ledgers)

pub outstanding_chain : (a b c : List LedgerView) → LeavesOutstanding a b → LeavesOutstanding b c
    → LeavesOutstanding a c
outstanding_chain a b c p q o out = q o (p o out)

-- a desk that keeps what is kept leaves the tickets of what is outstanding
pub tickets_stay : (old new : DeskView) → KeepsDesk old new → LeavesOutstanding old.ledgers new.ledgers
    → LeavesTickets old new
tickets_stay old new keeps out t owned = search (arith, t.operation, owned.loose)

-- a request to one manager that leaves what is open there leaves what is outstanding
pub moved_leaves : (m : ℕ) (a' : LedgerView) (old new : DeskView) → Moved m a' old new
    → ((n : ℕ) → IsOpen n (ledger old.ledgers m) → IsOpen n a')
    → LeavesOutstanding old.ledgers new.ledgers
moved_leaves m a' old new moved leaves o out = search (arith, cases_eq, known_by)

-- requests that were collected leave the rest of the desk
pub rest_kept : (ks : List Ask) (old new : DeskView) → Asks ks old.ledgers new.ledgers → KeepsDesk old new
    → KeepsTheRest old new
rest_kept ks old new asks keeps = search (arith, asks_leave_outstanding, asks_keep, tickets_stay, as_many_open)

-- a desk that is as it was keeps all
pub rest_same : (old new : DeskView) → new ≡ old → KeepsTheRest old new
rest_same old new same =
    rw same
    (record {
      keeps = keeps_start old;
      kept = λ all. all;
      left = λ o out. out;
      tickets = tickets_stay old old (keeps_start old) (λ o out. out);
      free = refl;
    })

pub rest_chain : (a b c : DeskView) → KeepsTheRest a b → KeepsTheRest b c → KeepsTheRest a c
rest_chain a b c p q =
    search (
      arith,
      keeps_chain,
      outstanding_chain,
      p.keeps,
      q.kept,
      p.kept,
      a.ledgers,
      b.ledgers,
      c.ledgers,
      p.left,
      q.tickets,
      p.tickets,
    )

-- a request was asked, whatever it answered
abbrev pub WasAsked : List LedgerView → List LedgerView → Option Op → ℕ → Type 0
WasAsked at now op m = (z : Option Code) × AskTrace op z (ledger at m) (ledger now m)

pub all_asked : (ks : List Ask) (at now : List LedgerView) → EachAsk ks at now
    → All (λ k. WasAsked at now k.op k.manager) ks
all_asked [] at now e = All-nil (λ (k : Ask). WasAsked at now k.op k.manager)
all_asked (k ∷ ks) at now e =
    All-cons (λ (k : Ask). WasAsked at now k.op k.manager) k ks (k.code, e.0) (all_asked ks at now e.1)

-- ---- what was asked of a manager, by a desk's ledger with it

pub for_trace : (op : Option Op) (code : Option Code) (a a' : LedgerView) → AskTrace op code a a'
    → AsksFor AsksLedger op code a a'
for_trace None code a a' is = (is.answered, is.trace)
for_trace (Some op) None a a' is = absurd is.answered
for_trace (Some op) (Some c) a a' is = is

pub trace_for : (op : Option Op) (code : Option Code) (a a' : LedgerView) → AsksFor AsksLedger op code a a'
    → AskTrace op code a a'
trace_for None code a a' is = record { answered = is.0; trace = is.1 }
trace_for (Some op) None a a' is = absurd is
trace_for (Some op) (Some c) a a' is = is

-- ---- it only makes the ledger grow

pub asked_grows : (a : LedgerView) (op : Option Op) (code : Option Code) → HasGrown a (asked a op code)
asked_grows a None code = as_it_was a
asked_grows a (Some op) None = as_it_was a
asked_grows a (Some op) (Some code) =
    by_if (HasGrown a) (learnt_shut a) _ _ (λ _. as_it_was a)
    (λ _. record { sent = (op ∷ [], refl); collected = ((length a.sent, code) ∷ [], refl) })

-- ---- the requests of a branch, one after another

pub trace_of : (commit : Bool) (b : Branch) (vote : Code) (second : Option Code) (ending : Ending) (a a' : LedgerView)
    → (is : AtBranch AsksLedger commit b vote second ending a a')
    → AskTrace (second_op commit b.xid vote) second is.prepared is.decided × AskTrace (third_op b.xid second) is.third
    is.decided a'
trace_of commit b vote second ending a a' is = (
  trace_for (second_op commit b.xid vote) second is.prepared is.decided is.obeys,
  trace_for (third_op b.xid second) is.third is.decided a' is.forgets,
)
