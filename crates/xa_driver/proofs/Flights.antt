-- Requests in flight: what sending and collecting one leaves of the others, and a round that is left in the middle.
use Rattle.xa_base.proofs.{rules, list_any-append, ◌≡◌, ◌≢◌, ℕ, ◌+◌, ◌<◌, ◌≤◌, false, ◌==◌, Option, None, Some, List}
use Rattle.xa_base.proofs.{[], ◌∷◌, ◌++◌, length, refl, sym, ap, ◌∙◌, arith, length-append, eqb-false, ne_eqb, or_parts}
use Rattle.xa_base.proofs.{at_false, at_true, or_from, cases_eq, cases_Bool, ◌⊎◌, ◌||◌, inl, inr, ⊎_elim, true}
use Rattle.xa_base.proofs.{eqb-true, some_same, inserted_other, inserted_there}
use Rattle.std.specs.FinMap as finmap
use Rattle.xa_words.specs.{Code, Op}
use Rattle.xa_desk.specs.{LedgerView, learnt_shut, with_sent, TicketView, IsKnown, ledger, outstanding, DeskView}
use Rattle.xa_desk.specs.{Operation, AllKept, LeavesOthers}
use Rattle.xa_desk.proofs.Ledgers.{known_by}
use Rattle.xa_driver.specs.{Ask, AskTrace, EachAsk, among_asks, AreRising, CanAsk, AllCanAsk, IsUnsent, unsent_code}
use Rattle.xa_driver.specs.{BeginsAsk, EndsAsk, HasBegun, EachBegan, Round, KeepsTicket, LeavesOwned, Owning}
use Rattle.xa_driver.specs.{AllKeptBut, AreOtherTickets, IsAmong, IsUnderWay, LeavesInFlight, LeavesKept}
use Rattle.xa_driver.specs.{LeavesOtherTickets, OwnsAll}
use Rattle.xa_driver.proofs.Requests.{open_count, sent_by, Moved, began_moved, ended_moved, collected_of, sent_is}
use Rattle.xa_driver.proofs.Requests.{asks_there, IsOpen, asked_opens, out_by}

-- ---- which managers are among requests

pub apart : (k : Ask) (ks : List Ask) (m : ℕ) → among_asks (k ∷ ks) m ≡ false → k.manager ≢ m
apart k ks m none e = eqb-false k.manager m (or_parts _ _ none).0 e

pub among_parts : (js bs : List Ask) (m : ℕ) → among_asks (js ++ bs) m ≡ false
    → (among_asks js m ≡ false) × (among_asks bs m ≡ false)
among_parts js bs m none = or_parts _ _ (sym (list_any-append (λ (k : Ask). k.manager == m) js bs) ∙ none)

-- ---- rising requests

-- the first of requests that rise, to the manager of the last of them, and those after them
pub record Parts (lo : ℕ) (js bs : List Ask) : Type 0 where
  pub first : AreRising lo js
  pub hi : ℕ
  pub up : lo ≤ hi
  pub last : AreRising hi bs
  pub above : (m : ℕ) → hi < m → among_asks js m ≡ false

pub rising_parts : (lo : ℕ) (js bs : List Ask) → AreRising lo (js ++ bs) → Parts lo js bs
rising_parts lo [] bs r = record { first = tt; hi = lo; up = omega arith; last = r; above = λ m below. refl }
rising_parts lo (a ∷ js) bs (low, r) =
    let p = rising_parts a.manager js bs r in
    let up = p.up in record {
      first = (low, p.first);
      hi = p.hi;
      up = omega (arith, up, low);
      last = p.last;
      above = λ m below. or_from _ _ (ne_eqb a.manager m (λ e. absurd (omega (arith, up, below, e)))) (p.above m below);
    }

pub can_at : (js : List Ask) (k : Ask) (bs : List Ask) (at : List LedgerView) → AllCanAsk (js ++ k ∷ bs) at
    → CanAsk at k.manager
can_at [] k bs at c = c.0
can_at (a ∷ js) k bs at c = can_at js k bs at c.1

-- ---- what moves one ledger leaves the requests to the others

module _ (at : List LedgerView) (d d' : DeskView) (m : ℕ) (a' : LedgerView) (moved : Moved m a' d d') where
  one_stays : (k : Ask) (r : Option TicketView) → 1 ≤ k.manager → k.manager ≢ m → HasBegun k r at d → HasBegun k r at d'
  one_stays k None p differs h = (h.0, moved.others k.manager p differs ∙ h.1)
  one_stays k (Some t) p differs h = search (arith, known_by)

  pub begun_stays : (lo : ℕ) (ks : List Ask) (rs : List (Option TicketView)) → AreRising lo ks → among_asks ks m ≡ false
      → EachBegan ks rs at d
      → EachBegan ks rs at d'
  begun_stays lo [] [] up none h = tt
  begun_stays lo (k ∷ ks) (r ∷ rs) up none h = (
    one_stays k r (let z = up.0 in omega arith) (apart k ks m none) h.0,
    begun_stays k.manager ks rs up.1
        (or_parts (k.manager == m) _ none).1 h.1,
  )
  begun_stays lo _ _ up none h = absurd h

  pub asked_stays : (lo : ℕ) (ks : List Ask) → AreRising lo ks → among_asks ks m ≡ false → EachAsk ks at d.ledgers
      → EachAsk ks at d'.ledgers
  asked_stays lo [] up none h = tt
  asked_stays lo (k ∷ ks) up none h = (
    rw (moved.others k.manager (let z = up.0 in omega arith) (apart k ks m none)) h.0,
    asked_stays k.manager ks up.1
        (or_parts (k.manager == m) _ none).1 h.1,
  )

-- ---- one more request

pub begun_more : (ks : List Ask) (rs : List (Option TicketView)) (k : Ask) (r : Option TicketView)
    (at : List LedgerView) (d : DeskView)
    → EachBegan ks rs at d
    → HasBegun k r at d → EachBegan (ks ++ k ∷ []) (rs ++ r ∷ []) at d
begun_more [] [] k r at d h one = (one, tt)
begun_more (j ∷ ks) (q ∷ rs) k r at d h one = (h.0, begun_more ks rs k r at d h.1 one)
begun_more _ _ k r at d h one = absurd h

pub asked_more : (ks : List Ask) (k : Ask) (at at' : List LedgerView) → EachAsk ks at at'
    → AskTrace k.op k.code (ledger at k.manager) (ledger at' k.manager)
    → EachAsk (ks ++ k ∷ []) at at'
asked_more [] k at at' h one = (one, tt)
asked_more (j ∷ ks) k at at' h one = (h.0, asked_more ks k at at' h.1 one)

-- the first request to a manager that nothing was sent to yet
pub begins_flight : (k : Ask) (r : Option TicketView) (d0 d d' : DeskView)
    → ledger d.ledgers k.manager ≡ ledger d0.ledgers k.manager
    → IsKnown d.ledgers k.manager → BeginsAsk k d d' r → HasBegun k r d0.ledgers d'
begins_flight k None d0 d d' same known b = search (arith, rules)
begins_flight k (Some t) d0 d d' same known b = record {
  op = b.op;
  wanted = b.wanted;
  open_ = ap learnt_shut (sym same) ∙ b.open_;
  operation = ap (λ (z : TicketView). z.operation) b.ticket
      ∙ ap (λ (a : LedgerView). record { manager = k.manager; number = length a.sent }) same;
  owned = b.owned;
  sent = sent_is k t d d' known b ∙ ap (λ (a : LedgerView). with_sent a b.op) same;
}

-- it takes one handle at most
pub sent_takes_one : (k : Ask) (r : Option TicketView) (d d' : DeskView) → IsKnown d.ledgers k.manager
    → BeginsAsk k d d' r
    → outstanding d'.ledgers ≤ outstanding d.ledgers + 1
sent_takes_one k r d d' known b = grind (arith, began_moved, sent_by, at_false, open_count, length-append)

-- ---- one is collected

pub end_takes_none : (k : Ask) (r : Option TicketView) (code : Option Code) (d d' : DeskView) → EndsAsk k d d' r code
    → outstanding d'.ledgers ≤ outstanding d.ledgers
end_takes_none k r code d d' e = search (arith, rules)

-- the ledger moves by what was collected
pub end_moves : (k : Ask) (r : Option TicketView) (code : Option Code) (at : List LedgerView) (d d' : DeskView)
    → IsKnown d.ledgers k.manager
    → HasBegun k r at d → EndsAsk k d d' r code
    → Moved k.manager (collected_of (ledger d.ledgers k.manager) r code) d d'
end_moves k r code at d d' known h e = search (arith, ended_moved)

unsent_trace : (k : Ask) (op : Option Op) (a a' : LedgerView) → IsUnsent a op → a' ≡ a
    → AskTrace op (unsent_code op) a a'
unsent_trace k None a a' h e = record { answered = refl; trace = e }
unsent_trace k (Some op) a a' h e = record { answered = λ shut. refl; trace = e ∙ sym (at_true (learnt_shut a) _ _ h) }

-- the manager was asked, and answered
pub end_answers : (k : Ask) (r : Option TicketView) (code : Option Code) (at : List LedgerView) (d d' : DeskView)
    → HasBegun k r at d → EndsAsk k d d' r code
    → ledger d'.ledgers k.manager ≡ collected_of (ledger d.ledgers k.manager) r code
    → AskTrace k.op code (ledger at k.manager) (ledger d'.ledgers k.manager)
unfolding collected_of
end_answers k None code at d d' h e is = search (arith, unsent_trace, k.op, d'.ledgers, h.0)
end_answers k (Some t) code at d d' h e is =
    search (arith, collected_of, at_false, k.manager, h.operation, d.ledgers, h.sent, d'.ledgers, h.open_)

-- ---- a round that is left in the middle: what is in flight is kept under handles, and so is all that is outstanding

-- what is owned stays so, where another ticket is kept
others_owned : (d d' : DeskView) (o : Operation) (rs : List (Option TicketView)) → AreOtherTickets o rs
    → LeavesOthers d d' o
    → OwnsAll d rs → OwnsAll d' rs
others_owned d d' o [] apart leaves owned = tt
others_owned d d' o (None ∷ rs) apart leaves owned = others_owned d d' o rs apart leaves owned
others_owned d d' o (Some t ∷ rs) apart leaves owned =
    (leaves t owned.0 apart.0, (owned.1.0, others_owned d d' o rs apart.1 leaves owned.1.1))

-- the first of them
pub first_owned : (d : DeskView) (r : Option TicketView) (rs : List (Option TicketView)) → OwnsAll d (r ∷ rs)
    → Owning d r
first_owned d None rs owned = tt
first_owned d (Some t) rs owned = owned.0

pub rest_owned : (d d' : DeskView) (r : Option TicketView) (rs : List (Option TicketView)) → OwnsAll d (r ∷ rs)
    → LeavesOwned d d' r → OwnsAll d' rs
rest_owned d d' None rs owned same = rw same owned
rest_owned d d' (Some t) rs owned leaves = others_owned d d' t.operation rs owned.1.0 leaves owned.1.1

-- the tickets of a round are of different managers
apart_above : (o : Operation) (lo : ℕ) (ks : List Ask) (rs : List (Option TicketView)) (at : List LedgerView)
    (d : DeskView)
    → o.manager ≤ lo → AreRising lo ks
    → EachBegan ks rs at d → AreOtherTickets o rs
apart_above o lo [] [] at d up rising began = tt
apart_above o lo (k ∷ ks) (None ∷ rs) at d up (above, rising) began =
    apart_above o k.manager ks rs at d (omega (arith, up, above)) rising began.1
apart_above o lo (k ∷ ks) (Some t ∷ rs) at d up (above, rising) began = (
  λ same. let number : k.manager ≡ o.manager = ap (λ (p : Operation). p.manager) (sym began.0.operation ∙ same) in omega
      (arith, up, above, number),
  apart_above o k.manager ks rs at d (omega (arith, up, above)) rising began.1,
)
apart_above o lo _ _ at d up rising began = absurd began

begun_owned : (lo : ℕ) (ks : List Ask) (rs : List (Option TicketView)) (at : List LedgerView) (d : DeskView)
    → AreRising lo ks → EachBegan ks rs at d
    → OwnsAll d rs
begun_owned lo [] [] at d rising began = tt
begun_owned lo (k ∷ ks) (None ∷ rs) at d rising began = begun_owned k.manager ks rs at d rising.1 began.1
begun_owned lo (k ∷ ks) (Some t ∷ rs) at d rising began =
    let is : t.operation.manager ≡ k.manager = ap (λ (p : Operation). p.manager) began.0.operation in (
      began.0.owned,
      (
        apart_above t.operation k.manager ks rs at d (omega (arith, is)) rising.1 began.1,
        begun_owned k.manager ks rs
            at d rising.1 began.1,
      ),
    )
begun_owned lo _ _ at d rising began = absurd began

pub flights_owned : (r : Round) (now : DeskView) → IsUnderWay r now → OwnsAll now r.tickets.items
flights_owned r now u =
    let all = rising_parts 0 u.done (u.flying ++ u.rest) (rw u.parts at u.rising) in
    let flying = rising_parts all.hi u.flying u.rest all.last in
    begun_owned all.hi u.flying r.tickets.items r.before.value.ledgers now flying.first u.in_flight

-- ---- one more is kept

events_kept : (d d' : DeskView) (r : Option TicketView) → KeepsTicket d d' r → d'.events ≡ d.events
events_kept d d' r h = grind arith

pub kept_one_more : (d d' : DeskView) (r : Option TicketView) (rs : List (Option TicketView)) → AllKeptBut (r ∷ rs) d
    → KeepsTicket d d' r → AllKeptBut rs d'
kept_one_more d d' None rs but same o out = let all : AllKeptBut rs d' = rw same but in all o out
kept_one_more d d' (Some t) rs but (n, (free, is)) o out = elim (but o (rw is at out)) [
  | inl (k, kept) ↦ inl (
    k,
    ap (λ (e : DeskView). finmap.get e.kept k) is
        ∙ inserted_other d.kept n t.operation k
        (λ same. let no : None ≡ Some o = sym free ∙ ap (finmap.get d.kept) (sym same) ∙ kept in cc)
        ∙ kept,
  )
  | inr (inl same) ↦ inl
      (n, ap (λ (e : DeskView). finmap.get e.kept n) is ∙ inserted_there d.kept n t.operation ∙ ap (λ q. Some q) same)
  | inr (inr later) ↦ inr later
]

-- ---- what else is there stays

among_more : (o : Operation) (t : Option TicketView) (ts : List (Option TicketView)) → IsAmong o ts → IsAmong o (t ∷ ts)
among_more o None ts h = h
among_more o (Some t) ts h = inr h

-- the last of some tickets
abbrev pub IsLast : List (Option TicketView) → List (Option TicketView) → Type 0
IsLast rs all = (o : Operation) → IsAmong o rs → IsAmong o all

pub last_more : (r : Option TicketView) (rs all : List (Option TicketView)) → IsLast (r ∷ rs) all → IsLast rs all
last_more r rs all last o among = last o (among_more o r rs among)

pub nothing_left : (rs : List (Option TicketView)) (d : DeskView) → LeavesInFlight rs d d
nothing_left rs d = search (arith, rules)

kept_stays : (d d' : DeskView) (r : Option TicketView) → KeepsTicket d d' r → LeavesKept d d'
kept_stays d d' None same k o is = ap (λ (e : DeskView). finmap.get e.kept k) same ∙ is
kept_stays d d' (Some t) (n, (free, made)) k o is = search (arith, inserted_other, d.kept, t.operation)

other_owned : (d d' : DeskView) (r : Option TicketView) (rs all : List (Option TicketView)) → IsLast (r ∷ rs) all
    → LeavesOwned d d' r
    → LeavesOtherTickets all d d'
other_owned d d' None rs all last same t owned other = rw same owned
other_owned d d' (Some q) rs all last leaves t owned other =
    leaves t owned (λ same. other (last t.operation (inl (sym same))))

pub left_one_more : (all : List (Option TicketView)) (d0 d d' : DeskView) (r : Option TicketView)
    (rs : List (Option TicketView))
    → IsLast (r ∷ rs) all
    → LeavesInFlight all d0 d → KeepsTicket d d' r → LeavesOwned d d' r → LeavesInFlight all d0 d'
left_one_more all d0 d d' r rs last left kept owned =
    search (arith, events_kept, kept_stays, other_owned, cases_eq, some_same, inserted_there, inserted_other)

pub all_kept : (d : DeskView) → AllKeptBut [] d → AllKept d
all_kept d but =
    record {
      each = λ o out. ⊎_elim (λ (k : (k : ℕ) × (finmap.get d.kept k ≡ Some o)). k)
          (λ (no : IsAmong o []). absurd no) (but o out);
    }

-- ---- what is outstanding in the middle of a round

-- a request that is in flight
open_or_it : (a : LedgerView) (op : Op) (n : ℕ) → IsOpen n (with_sent a op) → IsOpen n a ⊎ (n ≡ length a.sent)
open_or_it a op n h = grind (arith, cases_eq, length-append)

flying_open : (o : Operation) (ks : List Ask) (ts : List (Option TicketView)) (at : List LedgerView) (d : DeskView)
    → EachBegan ks ts at d
    → among_asks ks o.manager ≡ true → IsOpen o.number (ledger d.ledgers o.manager)
    → IsOpen o.number (ledger at o.manager) ⊎ IsAmong o ts
flying_open o [] ts at d h there open_ = cc
flying_open o (k ∷ ks) [] at d h there open_ = absurd h
flying_open o (k ∷ ks) (t ∷ ts) at d h there open_ = elim (cases_Bool (k.manager == o.manager)) [
  | inl e ↦ here t h.0 (eqb-true k.manager o.manager e)
  | inr e ↦
      ⊎_elim (λ (q : IsOpen o.number (ledger at o.manager)). inl q) (λ (q : IsAmong o ts). inr (among_more o t ts q))
      (flying_open o ks ts at d h.1 (ap (λ b. b || among_asks ks o.manager) (sym e) ∙ there) open_)
]
  where
    here : (t : Option TicketView) → HasBegun k t at d → k.manager ≡ o.manager
        → IsOpen o.number (ledger at o.manager) ⊎ IsAmong o (t ∷ ts)
    here None began same = inl (rw (ap (ledger d.ledgers) (sym same) ∙ began.1 ∙ ap (ledger at) same) at open_)
    here (Some q) began same =
        let sent_is : ledger d.ledgers o.manager ≡ with_sent (ledger at o.manager) began.op =
        ap (ledger d.ledgers) (sym same) ∙ began.sent ∙ ap (λ m. with_sent (ledger at m) began.op) same in
        ⊎_elim (λ (p : IsOpen o.number (ledger at o.manager)). inl p)
        (λ (p : o.number ≡ length (ledger at o.manager).sent).
        inr (inl
        (began.operation
        ∙ (λ i. record { manager = same i; number = (ap (λ m. length (ledger at m).sent) same ∙ sym p) i }))))
        (open_or_it (ledger at o.manager) began.op o.number (rw sent_is at open_))

-- was kept as the round began, or is in flight
pub all_but_flights : (r : Round) (now : DeskView) → IsUnderWay r now → AllKept r.before.value
    → AllKeptBut r.tickets.items now
all_but_flights r now u kept o out = elim (cases_Bool (among_asks u.flying o.manager)) [
  | inl flies ↦ ⊎_elim was (λ (among : IsAmong o r.tickets.items). inr among)
      (flying_open o u.flying r.tickets.items at now u.in_flight flies open_)
  | inr lies ↦ elim (cases_Bool (among_asks u.done o.manager)) [
    | inl done ↦ was
        (asks_there (λ a a'. IsOpen o.number a' → IsOpen o.number a) (asked_opens o.number) u.done at now.ledgers
        o.manager u.answered done open_)
    | inr none ↦ was
        (rw (u.others o.manager out.known.positive (list_any-append _ u.done u.flying ∙ or_from _ _ none lies)) at
        open_)
  ]
]
  where
    at : List LedgerView
    at = r.before.value.ledgers

    open_ : IsOpen o.number (ledger now.ledgers o.manager)
    open_ = record { sent = out.sent; open_ = out.open_ }

    was : IsOpen o.number (ledger at o.manager)
        → ((k : ℕ) × (finmap.get now.kept k ≡ Some o)) ⊎ IsAmong o r.tickets.items
    was opens =
        let (k, is) = kept.each o (out_by now.ledgers at o (sym u.managers) (λ _. opens) out) in
        inl (k, ap (λ m. finmap.get m k) u.keeps.kept ∙ is)
