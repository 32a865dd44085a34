-- Where all of the work answered XA_OK, all of it was done.
use Rattle.xa_base.proofs.{chain_kept, map-map, filter-map, list_any-map, filter_push, filter_skip, filter_none}
use Rattle.xa_base.proofs.{none_all, rules, ◌≡◌, ℕ, ◌+◌, ◌≤◌, Bool, true, false, ◌==◌, List, [], ◌∷◌, ◌++◌, length, map}
use Rattle.xa_base.proofs.{filter, length-append, append_assoc, sym, refl, ap, ◌∙◌, subst, arith, eq-eqb, All, list_any}
use Rattle.xa_base.proofs.{range_with_len, eqb-true, or_parts, append-nil, map-append, All-head, All-tail}
use Rattle.xa_base.proofs.{list_any-append, all_left, all_right, range_suc, ◌≢◌, zero, suc, ◌<◌, ◌||◌, Some, slice_get}
use Rattle.xa_base.proofs.{cases_lt, ne_eqb, All-nil, All-cons, All-append, All-map, all_at, all_from, all_unmapped}
use Rattle.xa_base.proofs.{flat_one, some_same, AllPass-from_list_all}
use Rattle.xa_base.specs.{Chain}
use Rattle.xa_words.specs.{Done, Op}
use Rattle.xa_desk.specs.{Operation, with_sent, with_collected, IsKnown, ledger, next_operation, LedgerView, DeskView}
use Rattle.xa_work.specs.{PutsAtLast, PutsOp, Put, Flight, Change, Got, HasDoneWork, HaveWorked, Tries, TriesInFlight}
use Rattle.xa_work.specs.{in_flight, in_turn, ops_of, requests_at, requests_of_branches}
use Rattle.xa_work.proofs.Worked.{AreCollected, AreKept, Block, Flights, IsKey, block_one, is_put, kept_push, key_of}
use Rattle.xa_work.proofs.Worked.{known_on, AreTaken, all_collected, all_kept, branches_called, gots_taken}
use Rattle.xa_driver.specs.{Branch, AreBranchesRising, HaveRoom, has_branch_at}
use Rattle.xa_work.specs.Works.CallsBranches.{completed, stopped}

-- ---- lists

-- ---- one manager's ledger

-- these were sent, one after the other
abbrev pub sent_all : LedgerView → List Op → LedgerView
sent_all a [] = a
sent_all a (o ∷ os) = sent_all (with_sent a o) os

sent_push : (a : LedgerView) (os : List Op) (o : Op) → sent_all a (os ++ o ∷ []) ≡ with_sent (sent_all a os) o
sent_push a [] o = refl
sent_push a (p ∷ os) o = sent_push (with_sent a p) os o

pub sent_sent : (a : LedgerView) (os : List Op) → (sent_all a os).sent ≡ a.sent ++ os
sent_sent a [] = sym (append-nil a.sent)
sent_sent a (o ∷ os) = sent_sent (with_sent a o) os ∙ append_assoc a.sent (o ∷ []) os

pub sent_collected : (a : LedgerView) (os : List Op) → (sent_all a os).collected ≡ a.collected
sent_collected a [] = refl
sent_collected a (o ∷ os) = sent_collected (with_sent a o) os

-- these were collected with XA_OK, one after the other
abbrev pub got_all : LedgerView → List ℕ → LedgerView
got_all a [] = a
got_all a (n ∷ ns) = got_all (with_collected a n Done) ns

pub got_sent : (a : LedgerView) (ns : List ℕ) → (got_all a ns).sent ≡ a.sent
got_sent a [] = refl
got_sent a (n ∷ ns) = got_sent (with_collected a n Done) ns

pub got_collected : (a : LedgerView) (ns : List ℕ) → (got_all a ns).collected ≡ a.collected ++ map (λ n. (n, Done)) ns
got_collected a [] = sym (append-nil a.collected)
got_collected a (n ∷ ns) =
    got_collected (with_collected a n Done) ns ∙ append_assoc a.collected ((n, Done) ∷ []) (map (λ n. (n, Done)) ns)

-- ---- what was put

-- those among these that were put to manager m, and what they ask for
abbrev pub to_manager : ℕ → List Put → List Put
to_manager m ps = filter (λ (p : Put). p.flight.manager == m) ps

abbrev pub ops_to : ℕ → List Put → List Op
ops_to m ps = map (λ (p : Put). p.op) (to_manager m ps)

-- the numbers of the operations among these that are manager m's
abbrev pub numbers_at : ℕ → Flights → List ℕ
numbers_at m fs = map (λ (f : ℕ × Operation). f.1.number) (filter (λ (f : ℕ × Operation). f.1.manager == m) fs)

-- These were put, each with a handle, and are kept so.
pub record Flown (ps : List Put) (fs : Flights) (old new : DeskView) : Type 0 where
  pub keys_are : map (λ (f : ℕ × Operation). f.0) fs ≡ map (λ (p : Put). key_of p.flight.handle) ps
  pub managers_are : map (λ (f : ℕ × Operation). f.1.manager) fs ≡ map (λ (p : Put). p.flight.manager) ps
  pub kept : AreKept fs old new
  pub many : length new.ledgers ≡ length old.ledgers
  pub here : (m : ℕ) → IsKnown old.ledgers m → ledger new.ledgers m ≡ sent_all (ledger old.ledgers m) (ops_to m ps)
  pub others : (m : ℕ) → 1 ≤ m → list_any (λ (p : Put). p.flight.manager == m) ps ≡ false
      → ledger new.ledgers m ≡ ledger old.ledgers m
  pub numbered : (m : ℕ) → IsKnown old.ledgers m
      → numbers_at m fs ≡ range_with_len (length (ledger old.ledgers m).sent) (length (ops_to m ps))

none_flown : (d : DeskView) → Flown [] [] d d
none_flown d = search (arith, rules)

-- one more
module _ (ps : List Put) (fs : Flights) (old mid new : DeskView) (w : Flown ps fs old mid) (p : Put)
    (known : IsKnown old.ledgers p.flight.manager)
    (key : IsKey p.flight.handle) (put : PutsOp p.flight.manager p.op p.flight.handle mid new) where
  abbrev flight : ℕ × Operation
  flight = (key_of p.flight.handle, next_operation mid.ledgers p.flight.manager)

  known_mid : IsKnown mid.ledgers p.flight.manager
  known_mid = known_on p.flight.manager old.ledgers mid.ledgers w.many known

  step : Block p.flight.manager (with_sent (ledger mid.ledgers p.flight.manager) p.op) mid.ledgers new.ledgers
  step =
      block_one p.flight.manager (λ a. with_sent a p.op) mid.ledgers new.ledgers known_mid
      (is_put p.flight.manager p.op p.flight.handle (key_of p.flight.handle) mid new key.is key.positive put).ledgers

  here_more : (m : ℕ) → IsKnown old.ledgers m
      → ledger new.ledgers m ≡ sent_all (ledger old.ledgers m) (ops_to m (ps ++ p ∷ []))
  here_more m known_m = grind (arith, eqb-true, step, sent_push, map-append, filter_push, eq-eqb, filter_skip)

  others_more : (m : ℕ) → 1 ≤ m → list_any (λ (q : Put). q.flight.manager == m) (ps ++ p ∷ []) ≡ false
      → ledger new.ledgers m ≡ ledger old.ledgers m
  others_more m positive nowhere = grind (arith, or_parts, list_any, list_any-append, step, eq-eqb)

  -- how many were sent to manager m before it
  sent_before : (m : ℕ) → IsKnown old.ledgers m
      → length (ledger mid.ledgers m).sent ≡ length (ledger old.ledgers m).sent + length (ops_to m ps)
  sent_before m known_m = grind (arith, sent_sent, length-append)

  numbered_more : (m : ℕ) → IsKnown old.ledgers m
      → numbers_at m (fs ++ flight ∷ []) ≡ range_with_len (length (ledger old.ledgers m).sent)
      (length (ops_to m (ps ++ p ∷ [])))
  numbered_more m known_m =
      search
      (arith, range_with_len, eqb-true, sent_before, filter_push, map-append, length-append, range_suc, filter_skip)

  pub one_flown : Flown (ps ++ p ∷ []) (fs ++ flight ∷ []) old new
  one_flown = search (arith, is_put, key_of, map-append, kept_push, step, here_more, others_more, numbered_more)

-- all that were put
all_flown : (old : DeskView) (ps : List Put) (new : DeskView)
    → Chain (λ p d e. PutsAtLast p.flight.manager p.op p.flight.handle d e) old ps new
    → All (λ (p : Put). IsKnown old.ledgers p.flight.manager) ps → All (λ (p : Put). IsKey p.flight.handle) ps
    → (fs : Flights) × Flown ps fs old new
all_flown old =
    chain_kept (λ p d e. PutsAtLast p.flight.manager p.op p.flight.handle d e)
    (λ (p : Put). IsKnown old.ledgers p.flight.manager)
    (λ ps e. All (λ (p : Put). IsKey p.flight.handle) ps → (fs : Flights) × Flown ps fs old e) old
    (λ _. ([], none_flown old))
    (λ ps p d e before its is keys.
    let (fs, w) = before (all_left (λ (q : Put). IsKey q.flight.handle) ps (p ∷ []) keys) in
    let key =
    All-head (λ (q : Put). IsKey q.flight.handle) p []
    (all_right (λ (q : Put). IsKey q.flight.handle) ps (p ∷ []) keys) in (
      fs ++ (key_of p.flight.handle, next_operation d.ledgers p.flight.manager) ∷ [],
      one_flown ps fs old d e w p its key
          is.puts,
    ))

-- ---- what was collected

pub all_got : (fs : Flights) (at at' : List LedgerView) → All (λ (f : ℕ × Operation). IsKnown at f.1.manager) fs
    → AreCollected fs at at'
    → (m : ℕ) → 1 ≤ m → ledger at' m ≡ got_all (ledger at m) (numbers_at m fs)
all_got [] at at' known same m positive = ap (λ (l : List LedgerView). ledger l m) same
all_got (f ∷ fs) at at' known (mid, is, rest) m positive =
    let its = All-head (λ (g : ℕ × Operation). IsKnown at g.1.manager) f fs known in
    let step = block_one f.1.manager (λ a. with_collected a f.1.number Done) at mid its is in
    let on : All (λ (g : ℕ × Operation). IsKnown mid g.1.manager) fs =
    (λ k g within. known_on _ at mid step.many
    (All-tail (λ (g : ℕ × Operation). IsKnown at g.1.manager) f fs known k g within)) in
    let later = all_got fs mid at' on rest m positive in
    search (arith, eqb-true, step, eq-eqb, f.1.number, f.1.manager)

-- ---- lists

-- ---- branches by rising manager

rising_at : (low : ℕ) (bs : List Branch) (k : ℕ) (b : Branch) → AreBranchesRising low bs → slice_get bs k ≡ Some b
    → low < b.m
rising_at low [] k b up at = cc
rising_at low (c ∷ bs) zero b up at = rw (some_same c b at) at up.0
rising_at low (c ∷ bs) (suc k) b up at =
    let first = up.0 in let later = rising_at c.m bs k b up.1 at in omega (arith, first, later)

rising_order : (low : ℕ) (bs : List Branch) (j k : ℕ) (c b : Branch) → AreBranchesRising low bs → j < k
    → slice_get bs j ≡ Some c → slice_get bs k ≡ Some b
    → c.m < b.m
rising_order low [] j k c b up before at_c at_b = cc
rising_order low (x ∷ bs) j zero c b up before at_c at_b = absurd (omega (arith, before))
rising_order low (x ∷ bs) zero (suc k) c b up before at_c at_b =
    rw (some_same x c at_c) at (rising_at x.m bs k b up.1 at_b)
rising_order low (x ∷ bs) (suc j) (suc k) c b up before at_c at_b =
    rising_order x.m bs j k c b up.1 (omega (arith, before)) at_c at_b

-- two of them are at two managers
rising_apart : (low : ℕ) (bs : List Branch) (j k : ℕ) (c b : Branch) → AreBranchesRising low bs → j ≢ k
    → slice_get bs j ≡ Some c → slice_get bs k ≡ Some b
    → c.m ≢ b.m
rising_apart low bs j k c b up apart at_c at_b = grind (arith, rising_order, cases_lt)

pub room_known : (at : List LedgerView) (bs : List Branch) → HaveRoom at bs → All (λ (b : Branch). IsKnown at b.m) bs
room_known at [] room = All-nil (λ (b : Branch). IsKnown at b.m)
room_known at (b ∷ bs) room = All-cons (λ (c : Branch). IsKnown at c.m) b bs room.0.known (room_known at bs room.1)

-- ---- the requests of one branch, among all

abbrev ForManager : ℕ → ℕ × Op → Bool
ForManager m r = r.0 == m

all_pass : (m n : ℕ) (os : List Op) → (m == n) ≡ true
    → filter (ForManager n) (map (λ o. (m, o)) os) ≡ map (λ o. (m, o)) os
all_pass m n [] e = refl
all_pass m n (o ∷ os) e = grind (arith, all_pass m n os e)

none_pass : (m n : ℕ) (os : List Op) → (m == n) ≡ false → filter (ForManager n) (map (λ o. (m, o)) os) ≡ []
none_pass m n [] e = refl
none_pass m n (o ∷ os) e = grind (arith, none_pass m n os e)

none_named : (m n : ℕ) (os : List Op) → (m == n) ≡ false → list_any (ForManager n) (map (λ o. (m, o)) os) ≡ false
none_named m n [] e = refl
none_named m n (o ∷ os) e = let rest = none_named m n os e in λ i. e i || rest i

ops_back : (m : ℕ) (os : List Op) → map (λ (r : ℕ × Op). r.1) (map (λ o. (m, o)) os) ≡ os
ops_back m [] = refl
ops_back m (o ∷ os) = ap (λ l. o ∷ l) (ops_back m os)

-- those at a branch's manager are the branch's
requests_there : (cs : List Change) (bs : List Branch) (k : ℕ) (b : Branch) → AreBranchesRising 0 bs
    → slice_get bs k ≡ Some b
    → filter (ForManager b.m) (requests_of_branches cs bs) ≡ requests_at cs b
requests_there cs bs k b up at =
    flat_one (ForManager b.m) (requests_at cs) bs k b at
    (λ j c apart at_c. none_pass c.m b.m (ops_of cs c)
    (ne_eqb c.m b.m (rising_apart 0 bs j k c b up apart at_c at)))
    ∙ all_pass b.m b.m (ops_of cs b) (eq-eqb b.m b.m refl)

-- and where there is no branch there are none
requests_elsewhere : (cs : List Change) (bs : List Branch) (m : ℕ) → has_branch_at bs m ≡ false
    → list_any (ForManager m) (requests_of_branches cs bs) ≡ false
requests_elsewhere cs [] m e = refl
requests_elsewhere cs (b ∷ bs) m e =
    let z = or_parts (b.m == m) (has_branch_at bs m) e in
    list_any-append (ForManager m) (requests_at cs b) (requests_of_branches cs bs)
    ∙ (λ i. (none_named b.m m (ops_of cs b) z.0) i || (requests_elsewhere cs bs m z.1) i)

requests_known : (cs : List Change) (at : List LedgerView) (bs : List Branch) → All (λ (b : Branch). IsKnown at b.m) bs
    → All (λ (r : ℕ × Op). IsKnown at r.0) (requests_of_branches cs bs)
requests_known cs at [] known = All-nil (λ (r : ℕ × Op). IsKnown at r.0)
requests_known cs at (b ∷ bs) known =
    search (
      arith,
      requests_known cs at bs (All-tail (λ (c : Branch). IsKnown at c.m) b bs known),
      All-append,
      All-map,
      All-head,
      All-tail,
    )

-- ---- in flight

module _ (cs : List Change) (bs : List Branch) (old new : DeskView) (up : AreBranchesRising 0 bs)
    (known : All (λ (b : Branch). IsKnown old.ledgers b.m) bs)
    (t : TriesInFlight cs bs true old new) where
  abbrev puts : List Put
  puts = t.puts.puts

  abbrev gots : List Got
  gots = t.collects.gots

  got_by_keys : AreTaken (map (λ (g : Got). key_of g.flight.handle) gots) t.begun new × All
      (λ (g : Got). IsKey g.flight.handle) gots
  got_by_keys =
      gots_taken t.begun gots new t.collects.each (AllPass-from_list_all (λ (g : Got). g.ok) gots (sym t.collects.all))

  -- what was put is what was collected
  same_flights : map (λ (p : Put). p.flight) puts ≡ map (λ (g : Got). g.flight) gots
  same_flights = t.puts.flights_are ∙ sym t.collects.flights_are

  put_keys : All (λ (p : Put). IsKey p.flight.handle) puts
  put_keys =
      all_unmapped (λ (p : Put). p.flight) (λ (f : Flight). IsKey f.handle) puts
      (rw same_flights (All-map (λ (f : Flight). IsKey f.handle) (λ (g : Got). g.flight) gots got_by_keys.1))

  put_known : All (λ (p : Put). IsKnown old.ledgers p.flight.manager) puts
  put_known =
      all_unmapped (λ (p : Put). (p.flight.manager, p.op)) (λ (r : ℕ × Op). IsKnown old.ledgers r.0) puts
      (rw t.puts.wanted_are (requests_known cs old.ledgers bs known))

  flown : (fs : Flights) × Flown puts fs old t.begun
  flown = all_flown old puts t.begun t.puts.each put_known put_keys

  abbrev fs : Flights
  fs = flown.0

  abbrev w : Flown puts flown.0 old t.begun
  w = flown.1

  taken : AreTaken (map (λ (f : ℕ × Operation). f.0) fs) t.begun new
  taken =
      subst (λ ks. AreTaken ks t.begun new)
      (sym (map-map (λ (f : Flight). key_of f.handle) (λ (g : Got). g.flight) gots)
      ∙ ap (map (λ (f : Flight). key_of f.handle)) (sym same_flights)
      ∙ map-map (λ (f : Flight). key_of f.handle) (λ (p : Put). p.flight) puts ∙ sym w.keys_are)
      got_by_keys.0

  fs_known : All (λ (f : ℕ × Operation). IsKnown t.begun.ledgers f.1.manager) fs
  fs_known =
      all_unmapped (λ (f : ℕ × Operation). f.1.manager) (IsKnown t.begun.ledgers) fs
      (rw w.managers_are
      (All-map (IsKnown t.begun.ledgers) (λ (p : Put). p.flight.manager) puts
      (λ k p within. known_on _ old.ledgers t.begun.ledgers w.many (put_known k p within))))

  at_end : (m : ℕ) → 1 ≤ m → ledger new.ledgers m ≡ got_all (ledger t.begun.ledgers m) (numbers_at m flown.0)
  at_end m positive = grind (arith, all_kept, all_got, fs_known, all_collected, taken)

  -- the branch's requests were put to its manager, and no others
  own_ops : (k : ℕ) (b : Branch) → slice_get bs k ≡ Some b → ops_to b.m puts ≡ ops_of cs b
  own_ops k b at =
      sym (map-map (λ (r : ℕ × Op). r.1) (λ (p : Put). (p.flight.manager, p.op)) (to_manager b.m puts))
      ∙ ap (map (λ (r : ℕ × Op). r.1))
      (sym (filter-map (ForManager b.m) (λ (p : Put). (p.flight.manager, p.op)) puts)
      ∙ ap (filter (ForManager b.m)) t.puts.wanted_are ∙ requests_there cs bs k b up at)
      ∙ ops_back b.m (ops_of cs b)

  one_worked : (k : ℕ) (b : Branch) → slice_get bs k ≡ Some b
      → HasDoneWork cs b (ledger old.ledgers b.m) (ledger new.ledgers b.m)
  one_worked k b at =
      let here : IsKnown old.ledgers b.m = all_at (λ (c : Branch). IsKnown old.ledgers c.m) bs k b known at in
      let a : LedgerView = ledger old.ledgers b.m in
      let mid : LedgerView = ledger t.begun.ledgers b.m in
      let last = at_end b.m here.positive in
      let ops = own_ops k b at in
      search (arith, got_sent, numbers_at, sent_sent, ops_to, got_collected, sent_collected, range_with_len, b.m)

  no_puts : (m : ℕ) → has_branch_at bs m ≡ false → list_any (λ (p : Put). p.flight.manager == m) puts ≡ false
  no_puts m elsewhere =
      sym (list_any-map (ForManager m) (λ (p : Put). (p.flight.manager, p.op)) puts)
      ∙ ap (list_any (ForManager m)) t.puts.wanted_are
      ∙ requests_elsewhere cs bs m elsewhere

  no_numbers : (m : ℕ) → has_branch_at bs m ≡ false → numbers_at m fs ≡ []
  no_numbers m elsewhere =
      let none : list_any (λ (f : ℕ × Operation). f.1.manager == m) fs ≡ false =
      sym (list_any-map (λ n. n == m) (λ (f : ℕ × Operation). f.1.manager) fs)
      ∙ ap (list_any (λ n. n == m)) w.managers_are
      ∙ list_any-map (λ n. n == m) (λ (p : Put). p.flight.manager) puts ∙ no_puts m elsewhere in
      ap (map (λ (f : ℕ × Operation). f.1.number))
      (filter_none (λ (f : ℕ × Operation). f.1.manager == m) fs
      (none_all (λ (f : ℕ × Operation). f.1.manager == m) fs none))

  pub flown_works : HaveWorked cs bs old.ledgers new.ledgers
  flown_works = record {
    each = all_from (λ (b : Branch). HasDoneWork cs b (ledger old.ledgers b.m) (ledger new.ledgers b.m)) bs one_worked;
    others = λ m positive elsewhere.
        rw (w.others m positive (no_puts m elsewhere)) at (no_more m positive elsewhere);
  }
    where
      no_more : (m : ℕ) → 1 ≤ m → has_branch_at bs m ≡ false → ledger new.ledgers m ≡ ledger t.begun.ledgers m
      no_more m positive elsewhere = rw (no_numbers m elsewhere) at (at_end m positive)

-- ---- either way

pub tried_works : (cs : List Change) (bs : List Branch) (old new : DeskView) → AreBranchesRising 0 bs
    → All (λ (b : Branch). IsKnown old.ledgers b.m) bs
    → Tries cs bs true old new → HaveWorked cs bs old.ledgers new.ledgers
tried_works cs bs old new up known (in_flight can t) = flown_works cs bs old new up known t
tried_works cs bs old new up known (in_turn (completed done calls)) = (branches_called cs old bs new calls known up).0
tried_works cs bs old new up known (in_turn (stopped before after b mid undone is calls last)) = cc
