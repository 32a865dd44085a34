-- One step of a round: a request is sent, or collected; and the end, once all are.
use Rattle.xa_base.proofs.{list_any-append, none_of, MatchOption, ◌≡◌, ◌≢◌, ℕ, ◌+◌, ◌<◌, ◌≤◌, Option, None, Some, false}
use Rattle.xa_base.proofs.{List, [], ◌∷◌, ◌++◌, length, refl, sym, ap, ◌∙◌, arith, get_or, set, append_assoc}
use Rattle.xa_base.proofs.{append-nil, length-append, All, All-nil, All-cons, All-append, get_or-append_seam}
use Rattle.xa_base.proofs.{set-append_seam, drop, drop_at, drop_more}
use Rattle.std.specs.VecDeque.{deque_capacity}
use Rattle.xa_words.specs.{Code}
use Rattle.xa_desk.specs.{LedgerView, LeavesTickets, TicketView, IsKnown, ledger, outstanding, DeskView}
use Rattle.xa_desk.proofs.Ledgers.{known_by, sent_keeps_out}
use Rattle.xa_driver.specs.{Ask, Round, AllCanAsk, AreRising, BeginsAsk, CanAsk, EachAsk, EachBegan, EndsAsk, HasBegun}
use Rattle.xa_driver.specs.{HaveComeSoFar, IsBegun, Owning, among_asks, collected, in_flight, unasked, BeginsRound}
use Rattle.xa_driver.specs.{IsUnderWay, with_code, sent_count, SameAsks}
use Rattle.xa_driver.specs.Asks.{Asks}
use Rattle.xa_driver.proofs.Requests.{tickets_stay, keeps_chain, keeps_start, began_moved, behind, same_alike}
use Rattle.xa_driver.proofs.Requests.{same_itself, same_set, all_asked}
use Rattle.xa_driver.proofs.Flights.{apart, asked_more, asked_stays, begins_flight, begun_more, begun_stays, can_at}
use Rattle.xa_driver.proofs.Flights.{end_answers, end_moves, sent_takes_one, among_parts, end_takes_none, rising_parts}

-- ---- places in lists

pub matched_some : {A : Type 0} (P : Type 0) (Q : A → Type 0) (o : Option A) (x : A) → o ≡ Some x → Q x
    → MatchOption o P Q
matched_some P Q o x e q = rw e q

pub as_many : (ks : List Ask) (rs : List (Option TicketView)) (at : List LedgerView) (d : DeskView)
    → EachBegan ks rs at d → length rs ≡ length ks
as_many [] [] at d h = refl
as_many (k ∷ ks) (r ∷ rs) at d h = let z = as_many ks rs at d h.1 in omega arith
as_many _ _ at d h = absurd h

-- the first in flight has the first ticket
pub first_flies : (ks : List Ask) (r : Option TicketView) (rs : List (Option TicketView)) (at : List LedgerView)
    (d : DeskView)
    → EachBegan ks (r ∷ rs) at d
    → (k : Ask) × ((js : List Ask) × ((ks ≡ k ∷ js) × (HasBegun k r at d × EachBegan js rs at d)))
first_flies [] r rs at d h = absurd h
first_flies (k ∷ ks) r rs at d h = (k, (ks, (refl, h)))

pub flight_owned : (k : Ask) (t : Option TicketView) (from : List LedgerView) (d : DeskView) → HasBegun k t from d
    → Owning d t
flight_owned k None from d h = tt
flight_owned k (Some t) from d h = h.owned

-- a round that has sent nothing
pub begins : (desk : DeskView) (r : Round) → AreRising 0 r.asks.items → AllCanAsk r.asks.items desk.ledgers
    → outstanding desk.ledgers + length r.asks.items ≤ desk.handles → r.before.value ≡ desk → r.collected ≡ 0
    → r.tickets.items ≡ []
    → length r.asks.items ≤ deque_capacity r.tickets → BeginsRound r.asks.items desk r
begins desk r rising can free before count tickets room = record {
  under_way = record {
    done = [];
    flying = [];
    rest = r.asks.items;
    parts = refl;
    counted = sym count;
    answered = tt;
    in_flight = rw tickets tt;
    others = λ m p none. ap (λ (d : DeskView). ledger d.ledgers m) (sym before);
    managers = ap (λ (d : DeskView). length d.ledgers) (sym before);
    keeps = rw before (keeps_start desk);
    rising = rising;
    can = rw before can;
    free = rw before free;
    fewer = rw before (omega arith);
    room = room;
  };
  before = before;
  asks_are = refl;
  none = let a = ap (λ l. length l) tickets in omega (arith, a, count);
}

-- ---- as it stands

module _ (r : Round) (now : DeskView) (u : IsUnderWay r now) where
  abbrev at : DeskView
  at = r.before.value

  -- what was sent
  abbrev gone : List Ask
  gone = u.done ++ u.flying

  split : r.asks.items ≡ gone ++ u.rest
  split = u.parts ∙ sym (append_assoc u.done u.flying u.rest)

  -- one of its requests: those before it aren't to its manager
  module _ (js : List Ask) (k : Ask) (ks : List Ask) (all : r.asks.items ≡ js ++ k ∷ ks) where
    up : AreRising 0 (js ++ k ∷ ks)
    up = rw all at u.rising

    can_first : CanAsk at.ledgers k.manager
    can_first = can_at js k ks at.ledgers (rw all at u.can)

    known_now : IsKnown now.ledgers k.manager
    known_now = known_by at.ledgers now.ledgers k.manager u.managers can_first.known

  -- ---- one more is sent

  module _ (n : ℕ) (count : n ≡ sent_count r) (k : Ask) (within : n < length r.asks.items)
      (next : k ≡ get_or r.asks.items n k) where
    abbrev zs : List Ask
    zs = drop (n + 1) r.asks.items

    tail_is : u.rest ≡ k ∷ zs
    tail_is = search (arith, drop_at, split, drop_more, as_many, length-append)

    all_is : r.asks.items ≡ gone ++ k ∷ zs
    all_is = split ∙ ap (λ l. gone ++ l) tail_is

    none_gone : among_asks gone k.manager ≡ false
    none_gone = search (arith, all_is, rising_parts, up)

    same : ledger now.ledgers k.manager ≡ ledger at.ledgers k.manager
    same = let can = can_first gone k zs all_is in u.others k.manager can.known.positive none_gone

    pub can_now : CanAsk now.ledgers k.manager
    can_now =
        record { known = known_now gone k zs all_is; room = rw same (let can = can_first gone k zs all_is in can.room) }

    pub free_now : outstanding now.ledgers < now.handles
    free_now = grind (arith, all_is, length-append)

    pub one_more_sent : (t : Option TicketView) (new : DeskView) → BeginsAsk k now new t → (r' : Round)
        → r' ≡ record r { tickets = r'.tickets }
        → r'.tickets.items ≡ r.tickets.items ++ t ∷ [] → deque_capacity r'.tickets ≡ deque_capacity r.tickets
        → IsUnderWay r' new
    one_more_sent t new began r' is tickets capacity =
        let moved = began_moved k now new t can_now.known began in
        let first =
        rising_parts 0 u.done (u.flying ++ k ∷ zs)
        (rw (append_assoc u.done u.flying (k ∷ zs)) at (up gone k zs all_is)) in
        let later = rising_parts first.hi u.flying (k ∷ zs) first.last in
        let none = among_parts u.done u.flying k.manager none_gone in
        let one = sent_takes_one k t now new can_now.known began in
        let flying =
        begun_stays at.ledgers now new k.manager _ moved first.hi u.flying r.tickets.items later.first none.1
        u.in_flight in
        rw is (record {
          done = u.done;
          flying = u.flying ++ k ∷ [];
          rest = zs;
          parts = search (arith, tail_is, append_assoc);
          counted = u.counted;
          answered = asked_stays at.ledgers now new k.manager _ moved 0 u.done first.first none.0 u.answered;
          in_flight = rw tickets
              (begun_more u.flying r.tickets.items k t at.ledgers new flying
              (begins_flight k t at now new same can_now.known began));
          others = λ m p without.
              let apart_ =
              among_parts gone (k ∷ []) m
              (ap (λ l. among_asks l m) (append_assoc u.done u.flying (k ∷ [])) ∙ without) in
              moved.others m p (λ q. apart k [] m apart_.1 (sym q)) ∙ u.others m p apart_.0;
          managers = moved.managers ∙ u.managers;
          keeps = keeps_chain at now new u.keeps moved.keeps;
          rising = u.rising;
          can = u.can;
          free = u.free;
          fewer = omega (arith, one, u.fewer, length-append u.flying (k ∷ []));
          room = let room = u.room in omega (arith, room, capacity);
        })

    -- and what was outstanding stays
    pub one_more_leaves : (t : Option TicketView) (new : DeskView) → BeginsAsk k now new t → LeavesTickets now new
    one_more_leaves None new (same_, unsent) = rw same_ (λ t owned. owned)
    one_more_leaves (Some t) new b =
        tickets_stay now new b.keeps (rw b.sent (sent_keeps_out now.ledgers k.manager b.op can_now.known))

  -- ---- the one that is longest in flight is collected

  module _ (t : Option TicketView) (ts : List (Option TicketView)) (tickets : r.tickets.items ≡ t ∷ ts) where
    pub first_one : (k : Ask)
        × ((js : List Ask) × ((u.flying ≡ k ∷ js) × (HasBegun k t at.ledgers now × EachBegan js ts at.ledgers now)))
    first_one = first_flies u.flying t ts at.ledgers now (rw tickets at u.in_flight)

    abbrev k : Ask
    k = first_one.0

    abbrev js : List Ask
    js = first_one.1.0

    abbrev begun : HasBegun k t at.ledgers now
    begun = first_one.1.1.1.0

    all_of : r.asks.items ≡ u.done ++ k ∷ (js ++ u.rest)
    all_of = u.parts ∙ ap (λ l. u.done ++ (l ++ u.rest)) first_one.1.1.0

    pub place_within : r.collected < length r.asks.items
    place_within =
        let a = u.counted in
        let b = ap (λ l. length l) all_of in omega (arith, a, b, length-append u.done (k ∷ (js ++ u.rest)))

    pub place_is : (d : Ask) → get_or r.asks.items r.collected d ≡ k
    place_is d = (λ i. get_or (all_of i) (sym u.counted i) d) ∙ get_or-append_seam u.done k (js ++ u.rest) d

    pub one_more_collected : (code : Option Code) (new : DeskView) → EndsAsk k now new t code → (r' : Round)
        → r' ≡ record r { asks = r'.asks; collected = r.collected + 1; tickets = r'.tickets }
        → r'.asks.items ≡ set r.asks.items r.collected (with_code k code)
        → r'.tickets.items ≡ ts → deque_capacity r'.tickets ≡ deque_capacity r.tickets → IsUnderWay r' new
    one_more_collected code new e r' is asks left capacity =
        let moved = end_moves k t code at.ledgers now new (known_now u.done k (js ++ u.rest) all_of) begun e in
        let trace = end_answers k t code at.ledgers now new begun e moved.here in
        let same : SameAsks r.asks.items r'.asks.items =
        rw asks
        (same_set r.asks.items r.asks.items r.collected k (with_code k code) (sym (place_is k))
        (record { manager = refl; xid = refl; vote = refl; op = refl }) (same_itself r.asks.items)) in
        let alike = same_alike r.asks.items r'.asks.items same in
        let first = rising_parts 0 u.done (k ∷ (js ++ u.rest)) (up u.done k (js ++ u.rest) all_of) in
        let later = rising_parts k.manager js u.rest first.last.1 in
        let now_are : r'.asks.items ≡ u.done ++ with_code k code ∷ (js ++ u.rest) =
        search (arith, all_of, set-append_seam) in
        let grown = length-append u.done (with_code k code ∷ []) in
        rw is (record {
          done = u.done ++ with_code k code ∷ [];
          flying = js;
          rest = u.rest;
          parts = now_are ∙ sym (append_assoc u.done (with_code k code ∷ []) (js ++ u.rest));
          counted = let a = u.counted in omega (arith, a, grown);
          answered = asked_more u.done (with_code k code) at.ledgers new.ledgers
              (asked_stays at.ledgers now new k.manager _ moved 0 u.done first.first
              (first.above k.manager first.last.0) u.answered) trace;
          in_flight = rw left
              (begun_stays at.ledgers now new k.manager _ moved k.manager js ts later.first
              (behind k.manager k.manager js (omega arith) later.first) first_one.1.1.1.1);
          others = λ m p without.
              let none : among_asks (u.done ++ k ∷ js) m ≡ false = search (arith, list_any-append, without) in
              let differs : m ≢ k.manager = λ q. apart k js m (among_parts u.done (k ∷ js) m none).1 (sym q) in
              moved.others m p differs ∙ u.others m p (ap (λ l. among_asks (u.done ++ l) m) first_one.1.1.0 ∙ none);
          managers = moved.managers ∙ u.managers;
          keeps = keeps_chain at now new u.keeps moved.keeps;
          rising = alike.rising 0 u.rising;
          can = alike.can at.ledgers u.can;
          free = let free = u.free in omega (arith, free, alike.long);
          fewer =
              let fewer = u.fewer in let flew = ap (λ l. length l) first_one.1.1.0 in
              let no_more = end_takes_none k t code now new e in omega (arith, grown, flew, fewer, no_more);
          room = let room = u.room in omega (arith, room, alike.long, capacity);
        })

-- ---- once all are collected

pub all_answered : (r : Round) (now : DeskView) (u : IsUnderWay r now) → length r.asks.items ≤ r.collected
    → Asks r.asks.items r.before.value.ledgers now.ledgers
all_answered r now u all =
    search (
      arith,
      none_of,
      length-append,
      append-nil,
      u.counted,
      u.parts,
      u.done,
      u.flying,
      r.before.value.ledgers,
      u.others,
    )

-- ---- as far as it came

begun_so : (k : Ask) (t : Option TicketView) (at : List LedgerView) (d : DeskView) → HasBegun k t at d
    → IsBegun k.op (ledger at k.manager) (ledger d.ledgers k.manager)
begun_so k None from d h = unasked h.1
begun_so k (Some t) from d h = in_flight h.op h.wanted h.open_ h.sent

-- what was done of a request
abbrev pub Begun : List LedgerView → List LedgerView → Ask → Type 0
Begun at now k = IsBegun k.op (ledger at k.manager) (ledger now k.manager)

pub so_answered : (at now : List LedgerView) (ks : List Ask) → EachAsk ks at now → All (Begun at now) ks
so_answered at now ks e k d lt = let z = all_asked ks at now e k d lt in collected z.0 z.1

module _ (at : List LedgerView) (d : DeskView) where
  so_flying : (ks : List Ask) (ts : List (Option TicketView)) → EachBegan ks ts at d → All (Begun at d.ledgers) ks
  so_flying [] [] e = All-nil (Begun at d.ledgers)
  so_flying (k ∷ ks) (t ∷ ts) e = All-cons (Begun at d.ledgers) k ks (begun_so k t at d e.0) (so_flying ks ts e.1)
  so_flying _ _ e = absurd e

  so_unasked : (hi : ℕ) (ks : List Ask) → AreRising hi ks → ((m : ℕ) → hi < m → ledger d.ledgers m ≡ ledger at m)
      → All (Begun at d.ledgers) ks
  so_unasked hi [] up others = All-nil (Begun at d.ledgers)
  so_unasked hi (k ∷ ks) (low, up) others =
      All-cons (Begun at d.ledgers) k ks (unasked (others k.manager low))
      (so_unasked k.manager ks up (λ m above. others m (omega (arith, low, above))))

pub so_far : (r : Round) (now : DeskView) → IsUnderWay r now
    → HaveComeSoFar r.asks.items r.before.value.ledgers now.ledgers
so_far r now u =
    let at : List LedgerView = r.before.value.ledgers in
    let last = rising_parts 0 (u.done ++ u.flying) u.rest (rw (split r now u) at u.rising) in
    let unasked_ =
    so_unasked at now last.hi u.rest last.last
    (λ m above. u.others m (omega (arith, above)) (last.above m above)) in
    record {
      each = rw u.parts
          (All-append (Begun at now.ledgers) u.done (u.flying ++ u.rest) (so_answered at now.ledgers u.done u.answered)
          (All-append (Begun at now.ledgers) u.flying u.rest (so_flying at now u.flying r.tickets.items u.in_flight)
          unasked_));
      others = λ m p none. u.others m p
          (among_parts (u.done ++ u.flying) u.rest m (ap (λ l. among_asks l m) (sym (split r now u)) ∙ none)).0;
      managers = u.managers;
    }
