-- What a settled opening has: that all of it is there and agrees, its journals, its ledgers and its setup.
use Rattle.xa_base.proofs.{searched, SearchedAs, all_map, contains_map, found, mapped_some, fails_each, pairs_at}
use Rattle.xa_base.proofs.{get_contained, ◌≡◌, ℕ, zero, ◌-◌, ◌≤◌, true, ◌==◌, List, [], ◌∷◌, length, map, refl, sym, ap}
use Rattle.xa_base.proofs.{subst, arith, option_map, Some, inl, inr, not_both, Contains, eqb-true, length-map, suc, ◌+◌}
use Rattle.xa_base.proofs.{false, nat_eq, cond, ◌∙◌, ne_eqb, Option, All, cases_lt, none_twice, All-contains}
use Rattle.xa_base.proofs.{false_from_ne_true, same_Some, None, ◌≢◌, get_or, eq-eqb, AllPairs, get_or_default, ◌<◌}
use Rattle.xa_base.proofs.{slice_get, range_with_len, slice_get_within, contains_at, got, was_mapped, cases_order}
use Rattle.xa_base.proofs.{IsPermutation, IsPermutation-sym, IsPermutation-map, Contains-permutation, All-permutation}
use Rattle.xa_base.proofs.{map-map as map-map}
use Rattle.xa_desk.specs.{LedgerView, EndedView, is_known, sent_to, collected_from, DeskView, numbered}
use Rattle.xa_worker.specs.{Served, Entry, requests, RequestLane, requests_taken, of_sender_thread, of_own_thread}
use Rattle.xa_worker.specs.{IsServed, IsOrdered, codes_in, WorkerView}
use Rattle.xa_switch.specs.{has_worker, ManagerPart, ReadyPart, find_manager, settling, manager_part, ready_part}
use Rattle.xa_switch.specs.{IsWhole, managers_in, parts_of, find_ready, has_desk, FollowsTables, Agree, IsSettled}
use Rattle.xa_switch.specs.{ledgers_in, journal_in, ThreadPart, column, IsClosed, desk_lane, worker_lane, thread_part}
use Rattle.xa_switch.specs.{taken_by, IsOpenedWith, IsSumOver, first_of, history, Settling, AreApartDesks}
use Rattle.xa_switch.specs.{AreApartWorkers, ComeFromOpenings, AreOfOne, desk_seats, worker_seats, seat_of_ended}
use Rattle.xa_switch.specs.{seat_of_done, journal, ledgers_of, Each, IsOf, Setup, AreOfOneOpening, IsNewDesk}
use Rattle.xa_switch.specs.{IsNewWorker, DeskSeat, WorkerSeat, seat_of_desk, seat_of_worker, first_opening, AreAll}
use Rattle.xa_switch.proofs.Pieces.{Joint, a_worker, known_at, none_of, workers_opened, request_columns}
use Rattle.xa_switch.proofs.Pieces.{completion_columns, pair_agrees}
use Rattle.xa_base.specs.{IsUpTo}
use Rattle.xa_words.specs.{Request, Completion}
use Rattle.xa_lane.specs.{Receiving, items_in, received}
use Rattle.xa_tables.specs.{of_thread, accepted, parted, IsOpening, Tables, next, coded, codes, opening, IsNew}
use Rattle.xa_tables.specs.{ValueIsSum, left_by, History, moved}
use Rattle.xa_desk.proofs.Ledgers.{known_is, known_true}
use Rattle.xa_words.specs.Orders.{key_cmp}
use Rattle.xa_tables.proofs.Reopening.{new_opens, accounts_new}
use Rattle.std.specs.List.{find}
use Rattle.std.specs.FinMap as finmap

-- ---- in a settled opening every manager is there

pub parts_ready : (ws : List Served) → parts_of (map ready_part ws) ≡ map manager_part ws
parts_ready [] = refl
parts_ready (w ∷ ws) = ap (λ l. manager_part w ∷ l) (parts_ready ws)

-- a manager is found with its memory
pub find_parts : (m : ℕ) (cs : List ReadyPart)
    → find_manager m (parts_of cs) ≡ option_map (λ (c : ReadyPart). c.part) (find_ready m cs)
find_parts m [] = refl
find_parts m (c ∷ cs) = search (arith, find_parts m cs, option_map)

module _ (d : EndedView) (ds : List EndedView) (ws : List Served) (j : Joint (d ∷ ds) ws) where
  first : Contains (d ∷ ds) d
  first = (zero, omega arith, refl)

  counted : managers_in (settling (d ∷ ds) ws) ≡ length d.ledgers
  counted = length-map d.ledgers (λ (a : LedgerView). a.carries_async)

  -- a worker's number is up to the number of the first desk's ledgers
  number_within : (w : Served) → Contains ws w → IsUpTo (length d.ledgers) w.number
  number_within w cw = let known = known_at (d ∷ ds) ws j d w first cw in (known.positive, known.within)

  there : (m : ℕ) → 1 ≤ m → m ≤ length d.ledgers → (p : ManagerPart) × (find_manager m (map manager_part ws) ≡ Some p)
  there m positive below =
      let has : has_worker m ws ≡ true = j.all.whole.workers 0 d (omega arith) m positive below in
      elim (searched manager_part (λ (q : ManagerPart). q.number == m) ws)
      [ inl x ↦ (manager_part x.0, x.3) | inr x ↦ let none = x.1 in cc ]

  only : (m : ℕ) (p : ManagerPart) → find_manager m (map manager_part ws) ≡ Some p → IsUpTo (length d.ledgers) m
  only m p found = elim (searched manager_part (λ (q : ManagerPart). q.number == m) ws) [
    | inl x ↦ rw (eqb-true x.0.number m x.2) at (number_within x.0 x.1)
    | inr x ↦ absurd (not_both _ p x.0 found)
  ]

  whole : IsWhole (settling (d ∷ ds) ws)
  whole = record {
    few =
        let w = a_worker (d ∷ ds) ws j.all in
        let (low, high) = number_within w.0 w.1 in
        (omega (arith, low, high, counted), omega (arith, j.few_managers 0 d (omega arith), counted));
    there = λ m positive below. let n = counted in there m positive (omega (arith, below, n));
    only = λ m p found. rw counted (only m p found);
  }

pub all_there : (ds : List EndedView) (ws : List Served) → Joint ds ws → IsWhole (settling ds ws)
all_there [] ws j = let some = j.all.whole.some_desk in absurd (omega (arith, some))
all_there (d ∷ ds) ws j = whole d ds ws j

-- ---- all threads and managers of a settled opening agree

-- where no ledger is known, nothing was sent and collected
unknown : (at : List LedgerView) (t m : ℕ) (J : List Entry) → is_known at m ≡ false → of_thread t (requests J) ≡ []
    → Agree t (sent_to at m) (collected_from at m) J
unknown at t m J none e = search (arith, none_twice, nat_eq)

none_known : (m : ℕ) → is_known [] m ≡ false
none_known m =
    false_from_ne_true (is_known [] m)
    (λ e. let k = known_is [] m e in let low = k.positive in let high = k.within in omega (arith, low, high))

-- threads are number_within from 1
no_zero : (xs : List (ℕ × Request)) (J : List Entry) → map of_sender_thread xs ≡ map of_own_thread J
    → of_thread 0 (requests J) ≡ []
no_zero xs [] h = refl
no_zero [] (e ∷ J) h = cc
no_zero (x ∷ xs) (e ∷ J) h =
    let f : of_sender_thread x ≡ of_own_thread e = cc in
    let g : map of_sender_thread xs ≡ map of_own_thread J = cc in
    let own = ap (λ (p : ℕ × Request). p.0) f in
    ap (λ b. cond b (e.0 ∷ of_thread 0 (requests J)) (of_thread 0 (requests J)))
    (ne_eqb e.0.thread 0 (λ z. omega (arith, own, z)))
    ∙ no_zero xs J g

-- a journal has what its worker took
all_taken : (w : Served) → requests_taken w.receiver.taken ≡ map of_own_thread w.journal
    → requests w.journal ≡ taken_by w
all_taken w h =
    sym (map-map (λ (p : ℕ × Request). p.1) of_own_thread w.journal) ∙ ap (map (λ (p : ℕ × Request). p.1)) (sym h)
    ∙ map-map (λ (p : ℕ × Request). p.1) of_sender_thread (items_in w.receiver.taken)

module _ (ds : List EndedView) (ws : List Served) (j : Joint ds ws)
    (rs : All (λ r. IsClosed r.1 (column (request_columns ds) r.0)) (map worker_lane ws))
    (cs : All (λ r. IsClosed r.1 (column (completion_columns ws) r.0)) (map desk_lane ds)) where
  requests_closed : (w : Served) → Contains ws w → IsClosed w.receiver (column (request_columns ds) (w.number - 1))
  requests_closed w cw =
      All-contains (λ (r : ℕ × RequestLane). IsClosed r.1 (column (request_columns ds) r.0)) (map worker_lane ws)
      (worker_lane w) rs (contains_map worker_lane ws w cw)

  completions_closed : (d : EndedView) → Contains ds d
      → IsClosed d.completions (column (completion_columns ws) (d.thread - 1))
  completions_closed d cd =
      All-contains (λ (r : ℕ × Receiving Completion). IsClosed r.1 (column (completion_columns ws) r.0))
      (map desk_lane ds) (desk_lane d) cs (contains_map desk_lane ds d cd)

  -- a journal has nothing of a thread that isn't there
  no_desk : (t : ℕ) (w : Served) → Contains ws w → has_desk t ds ≡ false → of_thread t (requests w.journal) ≡ []
  no_desk zero w cw none =
      let k : IsServed w = All-contains IsServed ws w j.workers cw in
      no_zero (items_in w.receiver.taken) w.journal k.taken
  no_desk (suc s) w cw none =
      let senders = (All-contains IsServed ws w j.workers cw).senders in
      let t : suc s ≡ s + 1 = omega arith in
      let nothing : received s w.receiver.taken ≡ [] = elim (cases_lt s w.manager.threads) [
        | inl lt ↦ search (arith, All-contains)
        | inr le ↦ none_of w.receiver.senders s w.receiver.taken (requests_closed w cw).known.0
            (omega (arith, le, senders))
      ] in
      ap (λ t. of_thread t (requests w.journal)) t ∙ All-contains IsOrdered ws w j.ordered cw s ∙ nothing

  -- a desk did nothing with a manager that isn't there
  no_worker : (m : ℕ) (d : EndedView) → Contains ds d → has_worker m ws ≡ false → is_known d.ledgers m ≡ false
  no_worker m d cd none = search (arith, false_from_ne_true, known_is, All-contains)

  -- where the search for a thread finds o, and that for a manager finds q
  agrees : (t m : ℕ) (o : Option ThreadPart) (q : Option ManagerPart)
      → SearchedAs thread_part (λ p. p.thread == t) ds o (has_desk t ds)
      → SearchedAs manager_part (λ p. p.number == m) ws q (has_worker m ws)
      → Agree t (sent_to (ledgers_in o) m) (collected_from (ledgers_in o) m) (journal_in q)
  agrees t m o q (inl (d, cd, is_t, at)) (inl (w, cw, is_m, at')) =
      let known = known_true d.ledgers w.number (known_at ds ws j d w cd cw) in
      rw (at, at', ← eqb-true d.thread t is_t, ← eqb-true w.number m is_m, known)
      (pair_agrees ds ws j d w cd cw (requests_closed w cw) (completions_closed d cd))
  agrees t m o q (inl (d, cd, is_t, at)) (inr (at', none)) =
      rw (at, at') (unknown d.ledgers t m [] (no_worker m d cd none) refl)
  agrees t m o q (inr (at, none)) (inl (w, cw, is_m, at')) =
      rw (at, at') (unknown [] t m w.journal (none_known m) (no_desk t w cw none))
  agrees t m o q (inr (at, none)) (inr (at', none')) = rw (at, at') (unknown [] t m [] (none_known m) refl)

  -- the law of a settled opening
  pub settled : IsSettled (settling ds ws)
  settled = record {
    agree = λ t m. agrees t m _ _ (searched thread_part (λ p. p.thread == t) ds)
        (searched manager_part (λ p. p.number == m) ws);
    tables = all_map manager_part FollowsTables ws (λ w cw.
        let k : IsServed w = All-contains IsServed ws w j.workers cw in
        record {
          opened = All-contains (λ (w : Served). IsOpening w.first) ws w (workers_opened ds ws j.all) cw;
          coded = k.follows.codes_then;
          entered = all_taken w k.taken ∙ parted (taken_by w);
          carried = ap accepted (all_taken w k.taken);
          left = k.follows.tables_then;
        });
  }

-- ---- a settled journal is what the tables at the opening make of its requests

-- entries with the codes of their places
coded_by : (J : List Entry) (T : Tables) → codes_in J ≡ codes (requests J) T → J ≡ coded (requests J) T
coded_by [] T e = refl
coded_by (x ∷ J) T e =
    let first : x.1 ≡ (next x.0.thread x.0.op T).1 = cc in
    let rest : codes_in J ≡ codes (requests J) (next x.0.thread x.0.op T).0 = cc in
    λ i. (x.0, first i) ∷ coded_by J (next x.0.thread x.0.op T).0 rest i

-- the tables that a manager began with
pub follows_part : (s : Settling) (m : ℕ) (p : ManagerPart) → find_manager m s.managers ≡ Some p → IsSettled s
    → IsOpenedWith s m p.first
follows_part s m p e h =
    let f : FollowsTables p =
    All-contains FollowsTables s.managers p h.tables (found (λ q. q.number == m) s.managers p e).0 in
    search (arith, coded_by, p.journal, p.first)

follows_in : (s : Settling) (m : ℕ) (o : Option ManagerPart) → find_manager m s.managers ≡ o → IsSettled s
    → (T : Tables) × IsOpenedWith s m T
follows_in s m None e h = (
  opening [],
  record {
    opened = new_opens (opening []) (accounts_new []);
    codes = rw e;
    fates = λ x g. rw e;
    values = λ k. rw e (sym (finmap.get-empty key_cmp k));
  },
)
follows_in s m (Some p) e h = (p.first, follows_part s m p e h)

pub follows : (s : Settling) (m : ℕ) → IsSettled s → (T : Tables) × IsOpenedWith s m T
follows s m h = follows_in s m (find_manager m s.managers) refl h

-- there is one that began with these
pub begun : (s : Settling) (m : ℕ) (T : Tables) → first_of s m ≡ Some T
    → (p : ManagerPart) × (find_manager m s.managers ≡ Some p) × (p.first ≡ T)
begun s m T is =
    let (p, there, _) = mapped_some (λ (q : ManagerPart). q.first) (find_manager m s.managers) T is in
    (p, there, same_Some p.first T (sym (ap (option_map (λ (q : ManagerPart). q.first)) there) ∙ is))

pub follows_first : (s : Settling) (m : ℕ) (T : Tables) → IsSettled s → first_of s m ≡ Some T → IsOpenedWith s m T
follows_first s m T h is =
    let (p, there, first) = begun s m T is in
    rw first at (follows_part s m p there h)

pub sums : ((before : List History) (h : History) (k : List ℕ) (T : Tables) → IsNew T → ValueIsSum k before h T)
    → (s : Settling) (m : ℕ) (before : List History) (T : Tables) → IsSettled s → IsNew T
    → first_of s m ≡ Some (left_by before T) → IsSumOver s m before T
sums law s m before T h new is k =
    (follows_first s m (left_by before T) h is).values k ∙ law before (history s m) k T new

-- ---- what a settled opening has of a thread is what its desk had in the end, and of a manager what its worker had

-- lists of which each element comes to the same
alike : {X Y : Type 0} (f g : X → Y) (xs : List X) → ((x : X) → Contains xs x → f x ≡ g x) → map f xs ≡ map g xs
alike f g [] same = refl
alike f g (x ∷ xs) same =
    search (arith, alike f g xs (λ y there. same y (suc there.0, (let low = there.1 in omega (arith, low)), there.2)))

-- ---- pieces, each with a number of its own, and parts that have the numbers of their pieces

module _ {X Y : Type 0} (number : X → ℕ) (part : X → Y) (has : Y → ℕ) (same : (x : X) → has (part x) ≡ number x)
    (xs : List X) (apart : AllPairs (λ x y. number x ≢ number y) xs) where
  -- the piece with a number is the one that is found
  the_one : (x y : X) → Contains xs x → Contains xs y → number x ≡ number y → x ≡ y
  the_one x y (i, in_x, at_x) (k, in_y, at_y) one_number =
      let at_y' : get_or xs k x ≡ y = get_or_default xs k x y in_y ∙ at_y in
      let numbers : number (get_or xs i x) ≡ number (get_or xs k x) =
      ap number at_x ∙ one_number ∙ ap number (sym at_y') in
      search (arith, cases_order)

  pub finds : (x : X) → Contains xs x → find (λ p. has p == number x) (map part xs) ≡ Some (part x)
  finds x there = elim (searched part (λ p. has p == number x) xs) [
    | inl f ↦ f.3
        ∙ ap (λ (y : X). Some (part y))
        (the_one f.0 x f.1 there (sym (same f.0) ∙ eqb-true (has (part f.0)) (number x) f.2))
    | inr f ↦
        let passes : (has (part x) == number x) ≡ true = eq-eqb (has (part x)) (number x) (same x) in
        let fails : (has (part x) == number x) ≡ false =
        fails_each (λ (y : X). has (part y) == number x) xs x there f.1 in
        cc
  ]

-- ---- the settled opening has of a thread what its desk had in the end, and of a manager what its worker had

module _ (ds : List EndedView) (ws : List Served) (from : ComeFromOpenings (desk_seats ds) (worker_seats ws))
    (one : AreOfOne ds ws) where
  settled_ledgers : (e : EndedView) → Contains ds e → ledgers_of (settling ds ws) e.thread ≡ e.ledgers
  settled_ledgers e there =
      ap ledgers_in (finds (λ (d : EndedView). d.thread) thread_part (λ p. p.thread) (λ d. refl) ds (λ i k d lt below.
      pairs_at seat_of_ended AreApartDesks ds from.desks_apart i k d lt below
      (one.0 i d (omega (arith, lt, below)) ∙ sym (one.0 k d below))) e there)

  settled_journal : (v : Served) → Contains ws v → journal (settling ds ws) v.number ≡ v.journal
  settled_journal v there =
      ap journal_in (finds (λ (w : Served). w.number) manager_part (λ p. p.number) (λ w. refl) ws (λ i k w lt below.
      pairs_at seat_of_done AreApartWorkers ws from.workers_apart i k w lt below
      (one.1 i w (omega (arith, lt, below)) ∙ sym (one.1 k w below))) v there)

  pub all_settled_ledgers : map (λ (e : EndedView). ledgers_of (settling ds ws) e.thread) ds ≡ map
      (λ (e : EndedView). e.ledgers) ds
  all_settled_ledgers =
      alike (λ (e : EndedView). ledgers_of (settling ds ws) e.thread) (λ (e : EndedView). e.ledgers) ds settled_ledgers

  pub all_settled_journals : map (λ (w : Served). journal (settling ds ws) w.number) ws ≡ map
      (λ (w : Served). w.journal) ws
  all_settled_journals =
      alike (λ (w : Served). journal (settling ds ws) w.number) (λ (w : Served). w.journal) ws settled_journal

-- ---- what is settled of all pieces of an opening is of the setup that it was made with

-- a list whose elements have rising numbers
numbers_of : {X : Type 0} (f : X → ℕ) (a : ℕ) (xs : List X) → Each (λ k x. f x ≡ a + k) xs
    → map f xs ≡ range_with_len a (length xs)
numbers_of f a [] each = refl
numbers_of f a (x ∷ xs) each =
    let first : f x ≡ a = each 0 x refl ∙ (omega arith) in
    let others : map f xs ≡ range_with_len (a + 1) (length xs) =
    numbers_of f (a + 1) xs (λ k y at. each (suc k) y at ∙ (omega arith)) in
    λ i. first i ∷ others i

-- one of ys has the seat of this one of xs
counterpart : {X Y S : Type 0} (f : X → S) (g : Y → S) (xs : List X) (ys : List Y) → IsPermutation (map f xs) (map g ys)
    → (x : X) → Contains xs x
    → (k : ℕ) × (y : Y) × (slice_get ys k ≡ Some y) × (g y ≡ f x)
counterpart f g xs ys moved x there =
    let seat = Contains-permutation (map f xs) (map g ys) (f x) moved (contains_map f xs x there) in
    let was = was_mapped g ys seat.0 (f x) (get_contained (map g ys) (f x) seat) in
    (seat.0, was.0, was.1, was.2)

-- the opening has a worker of each manager of its setup, with the setup's tables
module _ (p : Setup) (ds : List DeskView) (ws : List WorkerView) (o : AreOfOneOpening p ds ws) (vs : List Served)
    (workers : IsPermutation (map seat_of_worker ws) (worker_seats vs)) where
  first_opened : (m : ℕ) (T : Tables) → slice_get p.first m ≡ Some T → (v : Served) → Contains vs v → v.number ≡ m + 1
      → v.first ≡ T
  first_opened m T begins v in_v number =
      let (k, w, at, same) = counterpart seat_of_done seat_of_worker vs ws (IsPermutation-sym _ _ workers) v in_v in
      let new : IsNewWorker p k w = o.workers k w at in
      let made : w.number ≡ k + 1 = ap (λ (x : WorkerView). x.number) new.made in
      let seated : w.number ≡ v.number = ap (λ (s : WorkerSeat). s.number) same in
      let place : k ≡ m = omega (arith, made, seated, number) in
      let is : new.first ≡ T = same_Some new.first T (sym new.begins ∙ ap (slice_get p.first) place ∙ begins) in
      ap (λ (s : WorkerSeat). s.first) (sym same) ∙ ap (λ (x : WorkerView). x.first) new.made ∙ is

  -- it is there
  settled_worker : (m : ℕ) (T : Tables) → slice_get p.first m ≡ Some T
      → (v : Served) × Contains vs v × (v.number ≡ m + 1)
  settled_worker m T begins =
      let below = slice_get_within p.first m T begins in
      let (w, at) = got ws m (omega (arith, below, o.managers, o.tables)) in
      let (k, v, there, same) = counterpart seat_of_worker seat_of_done ws vs workers w (contains_at ws m w at) in (
        v,
        contains_at vs k v there,
        ap (λ (s : WorkerSeat). s.number) same
            ∙ ap (λ (x : WorkerView). x.number) (o.workers m w at).made,
      )

  found_with : (es : List EndedView) (m : ℕ) (T : Tables) → slice_get p.first m ≡ Some T
      → first_of (settling es vs) (m + 1) ≡ Some T
  found_with es m T begins = elim (searched manager_part (λ (q : ManagerPart). q.number == m + 1) vs) [
    | inl x ↦ ap (option_map (λ (part : ManagerPart). part.first)) x.3
        ∙ ap Some (first_opened m T begins x.0 x.1 (eqb-true x.0.number (m + 1) x.2))
    | inr x ↦
        let (v, there, number) = settled_worker m T begins in
        let passes : (v.number == m + 1) ≡ true = eq-eqb v.number (m + 1) number in
        let fails : (v.number == m + 1) ≡ false = fails_each (λ (v : Served). v.number == m + 1) vs v there x.1 in
        cc
  ]

-- a desk that is there has the opening's number
same_opening : (es : List EndedView) (vs : List Served) (n : ℕ) → 0 < length es
    → All (λ (s : DeskSeat). s.lane.opening ≡ n) (desk_seats es)
    → first_opening es vs ≡ n
same_opening [] vs n some h = absurd (omega arith)
same_opening (e ∷ es) vs n some h = h 0 (seat_of_ended e) (omega arith)

pub of_setup : (p : Setup) (ds : List DeskView) (ws : List WorkerView) (es : List EndedView) (vs : List Served)
    → AreOfOneOpening p ds ws → IsPermutation (map seat_of_desk ds) (desk_seats es)
    → IsPermutation (map seat_of_worker ws) (worker_seats vs) → AreAll es vs
    → IsOf p (settling es vs)
of_setup p ds ws es vs o desks workers all = record {
  opening = same_opening es vs p.numbers.opening all.some_desk
      (All-permutation (λ (s : DeskSeat). s.lane.opening ≡ p.numbers.opening) (map seat_of_desk ds) (desk_seats es)
      desks
      (all_map seat_of_desk (λ (s : DeskSeat). s.lane.opening ≡ p.numbers.opening) ds
      (λ d cd. let new : IsNewDesk p cd.0 d = o.desks cd.0 d (get_contained ds d cd) in ap
      (λ (r : Receiving Completion). r.lane.opening) new.completions)));
  threads =
      rearranged (λ (s : DeskSeat). s.thread) seat_of_desk seat_of_ended (λ (t : ThreadPart). t.thread) thread_part
      (λ e. refl) p.numbers.threads ds es o.threads
      (λ k d at. ap (λ (x : DeskView). x.thread) (o.desks k d at).made ∙ (omega arith)) desks;
  managers =
      rearranged (λ (s : WorkerSeat). s.number) seat_of_worker seat_of_done (λ (m : ManagerPart). m.number) manager_part
      (λ v. refl) p.managers ws vs o.managers
      (λ k w at. ap (λ (x : WorkerView). x.number) (o.workers k w at).made ∙ (omega arith)) workers;
  opened = found_with p ds ws o vs workers es;
}
  where
    -- the numbers of what is settled, in the order of its pieces
    rearranged : {S X Y Z : Type 0} (of_seat : S → ℕ) (seat : X → S) (seat' : Y → S) (of_part : Z → ℕ) (part : Y → Z)
        → ((y : Y) → of_seat (seat' y) ≡ of_part (part y)) → (n : ℕ) (xs : List X) (ys : List Y) → length xs ≡ n
        → Each (λ k x. of_seat (seat x) ≡ 1 + k) xs → IsPermutation (map seat xs) (map seat' ys)
        → IsPermutation (range_with_len 1 n) (map of_part (map part ys))
    rearranged {Y = Y} of_seat seat seat' of_part part same n xs ys many numbered moved =
        let before : map of_seat (map seat xs) ≡ range_with_len 1 n =
        map-map of_seat seat xs ∙ numbers_of (λ x. of_seat (seat x)) 1 xs numbered ∙ ap (range_with_len 1) many in
        let read : map (λ (y : Y). of_seat (seat' y)) ys ≡ map (λ (y : Y). of_part (part y)) ys =
        λ i. map (λ (y : Y). same y i) ys in
        let after : map of_seat (map seat' ys) ≡ map of_part (map part ys) =
        map-map of_seat seat' ys ∙ read ∙ sym (map-map of_part part ys) in
        subst (λ (l : List ℕ × List ℕ). IsPermutation l.0 l.1) (λ j. (before j, after j))
        (IsPermutation-map of_seat (map seat xs) (map seat' ys) moved)
