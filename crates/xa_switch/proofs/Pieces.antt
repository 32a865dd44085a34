-- The pieces of an opening: what the two ends of a lane say of each other, and what is known of desks and workers that
-- are all there.
use Rattle.xa_base.proofs.{contains_after, in_map, all_map, pairs_map, pairs_at, get_contained, contains_map, ◌≡◌, ℕ}
use Rattle.xa_base.proofs.{zero, suc, ◌+◌, ◌<◌, ◌≤◌, true, false, ◌==◌, ◌&&◌, cond, List, [], ◌∷◌, ◌++◌, map, slice_get}
use Rattle.xa_base.proofs.{option_map, sym, refl, ap, ◌∙◌, subst, inl, inr, arith, eq-eqb, ne_eqb, Option, Some, None}
use Rattle.xa_base.proofs.{All, Contains, filter, eqb-true, slice_get-map, All-contains, and_parts, same_Some, ◌≢◌, ◌-◌}
use Rattle.xa_base.proofs.{length, replicate, get_or, AllPairs, list_any, contains_at, was_mapped, slice_get_within}
use Rattle.xa_base.proofs.{Any-from_list_any, list_any_at, Contains-get_or, Contains-append_left, Contains-push}
use Rattle.xa_base.proofs.{Contains-push_cases}
use Rattle.std.proofs.lemmas.Bool.{cond_both}
use Rattle.xa_words.specs.{Code, Op, Request, Completion}
use Rattle.xa_lane.specs.{Parcel, of_sender, Sending, Receiving, somes, received, has_ended, sent_at, HasAllEnds}
use Rattle.xa_lane.specs.{left_of}
use Rattle.xa_tables.specs.{of_thread, IsOpening}
use Rattle.xa_desk.specs.{drained_code, numbered, arrived, IsPartOf, nothing, with_last, without_last, IsKnown, ledger}
use Rattle.xa_desk.specs.{EndedView, IsEndedDesk}
use Rattle.xa_worker.specs.{Entry, requests, completion_of, Answering, Served, IsServed, IsOrdered}
use Rattle.xa_switch.specs.{answers, IsClosed, dealt, column, IsClosable, Agree, EndSeat, WorkerSeat, end_seat}
use Rattle.xa_switch.specs.{seat_of_ended, seat_of_done, ShareLanes, AreTogether, AreApartDesks, AreApartWorkers}
use Rattle.xa_switch.specs.{ComeFromOpenings, desk_seats, worker_seats, desk_opening, worker_opening, first_opening}
use Rattle.xa_switch.specs.{AreOfOne, HasDesks, HasWorkers, AreAll, desk_lane, worker_lane}
use Rattle.xa_switch.proofs.Dealing.{all_placed, at_place, fresh_column, length_dealt, placed as placed_end}

-- ---- what the closed lanes of a desk and a worker say of the two

-- what the end at a place has sent
pub sent_there : {T : Type 0} (ss : List (Sending T)) (k : ℕ) (e : Sending T) → slice_get ss k ≡ Some e
    → sent_at k ss ≡ e.sent
sent_there [] k e at = cc
sent_there (s ∷ ss) k e at = grind (arith, sent_there ss (k - 1) e)

module _ {T : Type 0} (r : Receiving T) (ends : List (Sending T)) (h : IsClosed r ends) where
  -- once its end mark was taken, all that an end sent was
  pub taken_whole : (e : Sending T) → Contains ends e → has_ended e.index r.taken ≡ true
      → received e.index r.taken ≡ e.sent
  taken_whole e c m = search (arith, All-contains)

  -- what was taken of an end was sent by it
  pub in_sent : (e : Sending T) → Contains ends e → (x : T) → Contains (received e.index r.taken) x → Contains e.sent x
  in_sent e c x i =
      rw (All-contains (λ (e : Sending T). received e.index r.taken ++ left_of e.index h.left ≡ e.sent) ends e
      h.conserves c) at (Contains-append_left (received e.index r.taken) (left_of e.index h.left) x i)

  -- there is an end for each number of a sender
  pub end_of : (p : ℕ) → p < r.senders → (e : Sending T) × Contains ends e × (e.index ≡ p)
  end_of p below =
      let c = Any-from_list_any (λ (e : Sending T). e.index == p) ends (h.whole p below) in
      (c.1, (c.0, c.2, c.3), eqb-true c.1.index p c.4)

-- ---- what was taken

module _ {T : Type 0} where
  -- of a number that no sender has nothing was taken
  pub none_of : (n p : ℕ) (xs : List (Parcel T)) → All (λ x. x.from < n) xs → n ≤ p → received p xs ≡ []
  none_of n p [] h le = refl
  none_of n p (x ∷ xs) h le =
      ap (λ b. somes (cond b (x.item ∷ of_sender p xs) (of_sender p xs)))
      (ne_eqb x.from p (λ e. let low = h 0 x (omega arith) in omega (arith, low, e, le)))
      ∙ none_of n p xs (λ k d lt. h (suc k) d (omega arith)) le

  in_received_step : (y : T) (i : Option T) (from : ℕ) (zs : List (Option T)) (rest : ℕ → List (Option T)) (n : ℕ)
      → from < n
      → (Contains (somes zs) y → (p : ℕ) × (p < n) × Contains (somes (rest p)) y) → Contains (somes (i ∷ zs)) y
      → (p : ℕ) × (p < n) × Contains (somes (cond (from == p) (i ∷ rest p) (rest p))) y
  in_received_step y None from zs rest n low f h =
      let r = f h in (
        r.0,
        r.1,
        elim (from == r.0) as (λ b. Contains (somes (cond b (None ∷ rest r.0) (rest r.0))) y)
            [ true ↦ r.2 | false ↦ r.2 ],
      )
  in_received_step y (Some z) from zs rest n low f (zero, lt, e) =
      (from, low, rw (eq-eqb from from refl) (0, omega arith, e))
  in_received_step y (Some z) from zs rest n low f (suc k, lt, e) =
      let r = f (k, omega (arith, lt), e) in (
        r.0,
        r.1,
        elim (from == r.0) as (λ b. Contains (somes (cond b (Some z ∷ rest r.0) (rest r.0))) y)
            [ true ↦ contains_after z y (somes (rest r.0)) r.2 | false ↦ r.2 ],
      )

  -- what was taken was taken of some sender
  pub in_received : (y : T) (n : ℕ) (xs : List (Parcel T)) → All (λ x. x.from < n) xs
      → Contains (somes (map (λ x. x.item) xs)) y
      → (p : ℕ) × (p < n) × Contains (received p xs) y
  in_received y n [] h i = absurd (omega (arith, i.1))
  in_received y n (x ∷ xs) h i =
      in_received_step y x.item x.from (map (λ x. x.item) xs) (λ p. of_sender p xs) n (h 0 x (omega arith))
      (in_received y n xs (λ k d lt. h (suc k) d (omega arith))) i

-- ---- what was drained

-- the completion whose code was drained for an operation
pub in_drained : (m n : ℕ) (code : Code) (cs : List Completion)
    → drained_code (record { manager = m; number = n }) cs ≡ Some code
    → Contains cs (record { manager = m; number = n; code = code })
in_drained m n code [] at = cc
in_drained m n code (c ∷ cs) at =
    cond_both ((m == c.manager) && (n == c.number)) (Some c.code) (drained_code (record { manager = m; number = n }) cs)
    (λ o. o ≡ Some code → Contains (c ∷ cs) (record { manager = m; number = n; code = code }))
    (λ e is.
    let (its, own) = and_parts (m == c.manager) (n == c.number) e in (
      0,
      omega arith,
      λ i.
          record {
            manager = sym (eqb-true m c.manager its) i;
            number = sym (eqb-true n c.number own) i;
            code = same_Some c.code code is i;
          },
    ))
    (λ e is. contains_after c (record { manager = m; number = n; code = code }) cs (in_drained m n code cs is)) at

-- a part of a list has elements of it
pub in_part : {A : Type 0} (c : A) (xs zs : List A) → IsPartOf xs zs → Contains xs c → Contains zs c
in_part c _ _ nothing h = h
in_part c _ _ (with_last xs ys zs y p e) h = rw e (elim (Contains-push_cases xs y c h) [
  | inl before ↦ Contains-append_left ys (y ∷ []) c (in_part c xs ys p before)
  | inr last ↦ rw last (Contains-push ys c)
])
in_part c _ _ (without_last xs ys zs y p e) h = rw e (Contains-append_left ys (y ∷ []) c (in_part c xs ys p h))

-- ---- what was answered

entries_numbers : (t : ℕ) (J : List Entry)
    → map (λ (e : Entry). e.0.number) (filter (λ e. e.0.thread == t) J) ≡ map (λ (r : Request). r.number)
    (of_thread t (requests J))
entries_numbers t [] = refl
entries_numbers t (x ∷ J) = search (arith, entries_numbers t J)

number_at : (t n : ℕ) (ops : List Op) (k v : ℕ)
    → slice_get (map (λ (r : Request). r.number) (numbered t n ops)) k ≡ Some v → v ≡ n + k
number_at t n [] k v e = cc
number_at t n (op ∷ ops) k v e = grind (arith, number_at t (suc n) ops (k - 1) v)

-- an answer stands at the place of its number
pub placed : (t : ℕ) (J : List Entry) (ops : List Op) (q : Entry) → of_thread t (requests J) ≡ numbered t 0 ops
    → Contains (filter (λ e. e.0.thread == t) J) q
    → slice_get (answers t J) q.0.number ≡ Some (q.0.number, q.1)
placed t J ops q e i =
    let F = filter (λ (e : Entry). e.0.thread == t) J in
    let x : (k : ℕ) × (slice_get F k ≡ Some q) = (i.0, get_contained F q i) in
    let n : slice_get (map (λ (e : Entry). e.0.number) F) x.0 ≡ Some q.0.number =
    slice_get-map (λ (e : Entry). e.0.number) F x.0 ∙ ap (option_map (λ (e : Entry). e.0.number)) x.1 in
    let at : q.0.number ≡ 0 + x.0 =
    number_at t 0 ops x.0 q.0.number
    (ap (λ l. slice_get l x.0) (sym (entries_numbers t J ∙ ap (map (λ (r : Request). r.number)) e)) ∙ n) in
    let same : q.0.number ≡ x.0 = omega (arith, at) in
    ap (slice_get (answers t J)) same ∙ slice_get-map (λ (e : Entry). (e.0.number, e.1)) F x.0
    ∙ ap (option_map (λ (e : Entry). (e.0.number, e.1))) x.1

-- what a worker's end sent are answers of its manager
abbrev pub Answers : Sending Completion → Type 0
Answers e = (A : List Entry) × (e.sent ≡ map (completion_of (e.index + 1)) A)

-- a completion of manager m that was taken is one that its end sent
pub drawn_law : (r : Receiving Completion) (ends : List (Sending Completion)) → IsClosed r ends → All Answers ends
    → (m : ℕ) (e : Sending Completion) (A : List Entry) → Contains ends e → e.index + 1 ≡ m
    → e.sent ≡ map (completion_of m) A → (c : Completion) → c.manager ≡ m → Contains (arrived r.taken) c
    → (q : Entry) × Contains A q × (completion_of m q ≡ c)
drawn_law r ends h each m e A c i s y of_m drawn =
    let x = in_received y r.senders r.taken h.known.0 drawn in
    let f = end_of r ends h x.0 x.1 in
    let a : Answers f.0 = All-contains Answers ends f.0 each f.1 in
    let z =
    in_map (completion_of (f.0.index + 1)) y a.0 (rw a.1 at (in_sent r ends h f.0 f.1 y (rw f.2 x.2))) in
    let same : f.0.index + 1 ≡ m = ap (λ (v : Completion). v.manager) z.2 ∙ of_m in
    let here : x.0 ≡ e.index = omega (arith, same, i, f.2) in
    in_map (completion_of m) y A (rw s at (in_sent r ends h e c y (rw here at x.2)))

-- ---- the lanes that the pieces of one side have ends of: the desks of the lanes of requests, the workers of those of
-- completions

-- the piece's end of the other's lane, as the sender of this number
abbrev pub HasEnd : {T : Type 0} → List (Sending T) → ℕ → Receiving T → ℕ → Type 0
HasEnd {T} row place lane number =
    (e : Sending T) × (slice_get row place ≡ Some e) × ((e.lane ≡ lane.lane) × (e.line ≡ lane.line))
    × (e.index + 1 ≡ number)

-- Each of xs has an end of the lane of each of ys, at that one's place, and all senders of the lane are among xs.
pub record Sides {X Y T : Type 0} (rows : X → List (Sending T)) (number : X → ℕ) (place : Y → ℕ)
    (lane : Y → Receiving T) (xs : List X) (ys : List Y)
    : Type 0 where
  pub sends : (x : X) (y : Y) → Contains xs x → Contains ys y → HasEnd (rows x) (place y) (lane y) (number x)
  pub there : (y : Y) → Contains ys y → (p : ℕ) → p < (lane y).senders → list_any (λ x. number x == p + 1) xs ≡ true
  pub few : (y : Y) → Contains ys y → place y < 8

module _ {X Y T : Type 0} {rows : X → List (Sending T)} {number : X → ℕ} {place : Y → ℕ} {lane : Y → Receiving T}
    {xs : List X} {ys : List Y}
    (s : Sides rows number place lane xs ys) where
  abbrev ends : Y → List (Sending T)
  ends y = column (dealt (replicate 8 []) (map rows xs)) (place y)

  ends_are : (y : Y) → Contains ys y → ends y ≡ at_place (place y) (map rows xs)
  ends_are y cy = fresh_column 8 (map rows xs) (place y) (s.few y cy)

  -- what holds of each piece's end of the lane
  pub each_end : (P : Sending T → Type 0) (y : Y) → Contains ys y
      → ((x : X) (e : Sending T) → Contains xs x → slice_get (rows x) (place y) ≡ Some e → P e)
      → All P (ends y)
  each_end P y cy so = rw (ends_are y cy) (all_placed P (map rows xs) (place y) (λ i row e at_row at.
      let x = was_mapped rows xs i row at_row in
      so x.0 e (contains_at xs i x.0 x.1) (ap (λ l. slice_get l (place y)) x.2 ∙ at)))

  pub own_end : (x : X) (y : Y) (cx : Contains xs x) (cy : Contains ys y) (e : Sending T)
      → slice_get (rows x) (place y) ≡ Some e → e ≡ (s.sends x y cx cy).0
  own_end x y cx cy e at = let both : Some e ≡ Some (s.sends x y cx cy).0 = sym at ∙ (s.sends x y cx cy).1 in cc both

  pub end_in : (x : X) (y : Y) → Contains xs x → Contains ys y → (e : Sending T) → slice_get (rows x) (place y) ≡ Some e
      → Contains (ends y) e
  end_in x y cx cy e at = rw (ends_are y cy)
      (placed_end (map rows xs) (place y) cx.0 (rows x) e
      (slice_get-map rows xs cx.0 ∙ ap (option_map rows) (get_contained xs x cx)) at)

  all_ends : (y : Y) → Contains ys y → HasAllEnds (lane y).senders (ends y)
  all_ends y cy p below =
      let found = Any-from_list_any (λ x. number x == p + 1) xs (s.there y cy p below) in
      let cx : Contains xs found.1 = (found.0, found.2, found.3) in
      let own = s.sends found.1 y cx cy in
      let is = eqb-true (number found.1) (p + 1) found.4 in
      let index : own.0.index ≡ p = let i = own.3 in omega (arith, i, is) in
      let at = end_in found.1 y cx cy own.0 own.1 in
      list_any_at (λ (e : Sending T). e.index == p) (ends y) at.0 own.0 at.1
      (ap (λ (e : Sending T). e.index == p) at.2 ∙ eq-eqb own.0.index p index)

  closable : (y : Y) → Contains ys y → IsClosable (lane y) (ends y)
  closable y cy =
      let fits = each_end (λ e. (e.lane ≡ (lane y).lane) × (e.line ≡ (lane y).line)) y cy (λ x e cx at.
      rw (own_end x y cx cy e at) (s.sends x y cx cy).2) in
      record { lanes = λ k e below. (fits k e below).0; lines = λ k e below. (fits k e below).1; whole = all_ends y cy }

  -- what closing the lanes asks
  pub lanes_closable : All (λ (r : ℕ × Receiving T). IsClosable r.1 (column (dealt (replicate 8 []) (map rows xs)) r.0))
      (map (λ y. (place y, lane y)) ys)
  lanes_closable =
      all_map (λ y. (place y, lane y))
      (λ (r : ℕ × Receiving T). IsClosable r.1 (column (dealt (replicate 8 []) (map rows xs)) r.0)) ys closable

  pub lanes_places : All (λ (r : ℕ × Receiving T). r.0 < length (dealt (replicate 8 []) (map rows xs)))
      (map (λ y. (place y, lane y)) ys)
  lanes_places =
      rw (length_dealt (replicate 8 []) (map rows xs))
      (all_map (λ y. (place y, lane y)) (λ (r : ℕ × Receiving T). r.0 < 8) ys s.few)

-- what closing lanes asks of them, each with its place: no two are at one place, and the column there has all ends of
-- the lane
pub record AreLanesOf {T : Type 0} (columns : List (List (Sending T))) (lanes : List (ℕ × Receiving T)) : Type 0 where
  pub closable : All (λ r. IsClosable r.1 (column columns r.0)) lanes
  pub places : All (λ r. r.0 < length columns) lanes
  pub apart : AllPairs (λ a b. a.0 ≢ b.0) lanes

-- pieces of one opening have lanes at different places
pub lanes_apart : {Y S T : Type 0} (seat : Y → S) (R : S → S → Type 0) (opening number : Y → ℕ) (lane : Y → Receiving T)
    → ((a b : Y) → R (seat a) (seat b) → opening a ≡ opening b → number a ≢ number b) → (first : ℕ) (ys : List Y)
    → AllPairs R (map seat ys) → All (λ y. opening y ≡ first) ys → ((y : Y) → Contains ys y → 1 ≤ number y)
    → AllPairs (λ (a b : ℕ × Receiving T). a.0 ≢ b.0) (map (λ y. (number y - 1, lane y)) ys)
lanes_apart {Y} {S} {T} seat R opening number lane apart first ys pairs one positive =
    pairs_map (λ y. (number y - 1, lane y)) (λ (a b : ℕ × Receiving T). a.0 ≢ b.0) ys (λ i k d lt below e.
    let first_below : i < length ys = omega (arith, lt, below) in
    let low = positive (get_or ys i d) (Contains-get_or ys i d first_below) in
    let high = positive (get_or ys k d) (Contains-get_or ys k d below) in
    let same : number (get_or ys i d) ≡ number (get_or ys k d) = omega (arith, low, high, e) in
    apart (get_or ys i d) (get_or ys k d) (pairs_at seat R ys pairs i k d lt below)
    (one i d first_below ∙ sym (one k d below)) same)

-- ---- what is known of desks and workers that are all there, and of one opening

-- desks and workers that are all there, and of one opening
pub record Whole (ds : List EndedView) (ws : List Served) : Type 0 where
  pub from : ComeFromOpenings (desk_seats ds) (worker_seats ws)
  pub one : AreOfOne ds ws
  pub whole : AreAll ds ws

-- and what is known of each
pub record Joint (ds : List EndedView) (ws : List Served) : Type 0 where
  pub all : Whole ds ws
  pub few_managers : All (λ d. length d.ledgers ≤ 8) ds
  pub few_threads : All (λ w. w.manager.threads ≤ 8) ws
  pub desks : All IsEndedDesk ds
  pub workers : All IsServed ws
  pub ordered : All IsOrdered ws

-- a worker's manager was opened
pub workers_opened : (ds : List EndedView) (ws : List Served) → Whole ds ws → All (λ w. IsOpening w.first) ws
workers_opened ds ws h k w below =
    All-contains (λ (s : WorkerSeat). IsOpening s.first) (worker_seats ws) (seat_of_done (get_or ws k w)) h.from.opened
    (contains_map seat_of_done ws (get_or ws k w) (Contains-get_or ws k w below))

some_of : {X : Type 0} (xs : List X) → 0 < length xs → (x : X) × Contains xs x
some_of [] h = absurd (omega arith)
some_of (x ∷ xs) h = (x, (0, omega arith, refl))

-- the ends of lanes to each manager, and to each thread
abbrev pub request_columns : List EndedView → List (List (Sending Request))
request_columns ds = dealt (replicate 8 []) (map (λ d. d.requests) ds)

abbrev pub completion_columns : List Served → List (List Answering)
completion_columns ws = dealt (replicate 8 []) (map (λ w. w.ends) ws)

module _ (ds : List EndedView) (ws : List Served) (h : Whole ds ws) where
  same_opening : (d : EndedView) (w : Served) → Contains ds d → Contains ws w → desk_opening d ≡ worker_opening w
  same_opening d w cd cw = search (arith, All-contains)

  pair_at : (d : EndedView) (w : Served) → Contains ds d → Contains ws w → ShareLanes (seat_of_ended d) (seat_of_done w)
  pair_at d w cd cw =
      All-contains (AreTogether (seat_of_ended d)) (worker_seats ws) (seat_of_done w)
      (All-contains (λ s. All (AreTogether s) (worker_seats ws)) (desk_seats ds) (seat_of_ended d) h.from.together
      (contains_map seat_of_ended ds d cd))
      (contains_map seat_of_done ws w cw) (same_opening d w cd cw)

  -- the desk's end on the worker's lane
  pub sends_at : (d : EndedView) (w : Served) → Contains ds d → Contains ws w
      → HasEnd d.requests (w.number - 1) w.receiver d.thread
  sends_at d w cd cw =
      let s = pair_at d w cd cw in
      let x = was_mapped (λ (e : Sending Request). end_seat e) d.requests (w.number - 1) s.asking s.asks in (
        x.0,
        x.1,
        (ap (λ (v : EndSeat). v.lane) x.2 ∙ s.asked.0, ap (λ (v : EndSeat). v.line) x.2 ∙ s.asked.1),
        ap
            (λ (v : EndSeat). v.index + 1) x.2 ∙ s.asker,
      )

  -- the worker's end on the desk's lane
  pub answers_at : (d : EndedView) (w : Served) → Contains ds d → Contains ws w
      → HasEnd w.ends (d.thread - 1) d.completions w.number
  answers_at d w cd cw =
      let s = pair_at d w cd cw in
      let x = was_mapped (λ (e : Answering). end_seat e) w.ends (d.thread - 1) s.answering s.answers in (
        x.0,
        x.1,
        (ap (λ (v : EndSeat). v.lane) x.2 ∙ s.answered.0, ap (λ (v : EndSeat). v.line) x.2 ∙ s.answered.1),
        ap
            (λ (v : EndSeat). v.index + 1) x.2 ∙ s.answerer,
      )

  pub a_desk : (d : EndedView) × Contains ds d
  a_desk = some_of ds h.whole.some_desk

  pub a_worker : (w : Served) × Contains ws w
  a_worker = some_of ws h.whole.some_worker

  -- threads and managers are numbered from 1
  pub worker_number : (w : Served) → Contains ws w → 1 ≤ w.number
  worker_number w cw = let e = (answers_at a_desk.0 w a_desk.1 cw).3 in omega (arith, e)

  pub desk_number : (d : EndedView) → Contains ds d → 1 ≤ d.thread
  desk_number d cd = let e = (sends_at d a_worker.0 cd a_worker.1).3 in omega (arith, e)

  pub workers_numbered : All (λ w. 1 ≤ w.number) ws
  workers_numbered k d below = worker_number (get_or ws k d) (Contains-get_or ws k d below)

module _ (ds : List EndedView) (ws : List Served) (j : Joint ds ws) where
  desk_known : (d : EndedView) → Contains ds d → IsEndedDesk d
  desk_known d c = All-contains IsEndedDesk ds d j.desks c

  worker_known : (w : Served) → Contains ws w → IsServed w
  worker_known w c = All-contains IsServed ws w j.workers c

  -- a desk has a ledger with each manager
  pub known_at : (d : EndedView) (w : Served) → Contains ds d → Contains ws w → IsKnown d.ledgers w.number
  known_at d w cd cw =
      let own = sends_at ds ws j.all d w cd cw in
      let below = slice_get_within d.requests (w.number - 1) own.0 own.1 in
      let seated = worker_number ds ws j.all w cw in
      record { positive = seated; within = omega (arith, below, (desk_known d cd).tied.ends.number, seated) }

  -- a worker's place is below 8, and so is a desk's
  worker_place : (w : Served) → Contains ws w → w.number - 1 < 8
  worker_place w cw =
      let (d, cd) = a_desk ds ws j.all in
      let known = known_at d w cd cw in
      let few = All-contains (λ (d : EndedView). length d.ledgers ≤ 8) ds d j.few_managers cd in
      omega (arith, known.positive, known.within, few)

  desk_place : (d : EndedView) → Contains ds d → d.thread - 1 < 8
  desk_place d cd =
      let (w, cw) = a_worker ds ws j.all in
      let e = answers_at ds ws j.all d w cd cw in
      let below = slice_get_within w.ends (d.thread - 1) e.0 e.1 in
      let many = (worker_known w cw).lanes in
      let few = All-contains (λ (w : Served). w.manager.threads ≤ 8) ws w j.few_threads cw in
      omega (arith, below, few, many)

  -- ---- the lanes of requests, and of completions

  request_side : Sides (λ (d : EndedView). d.requests) (λ d. d.thread) (λ (w : Served). w.number - 1) (λ w. w.receiver)
      ds ws
  request_side = record {
    sends = sends_at ds ws j.all;
    there = λ w cw p below.
        let senders = (worker_known w cw).senders in
        All-contains (λ (w : Served). HasDesks w.manager.threads ds) ws w j.all.whole.desks cw (p + 1) (omega arith)
        (omega (arith, senders, below));
    few = worker_place;
  }

  completion_side : Sides (λ (w : Served). w.ends) (λ w. w.number) (λ (d : EndedView). d.thread - 1)
      (λ d. d.completions) ws ds
  completion_side = record {
    sends = λ w d cw cd. answers_at ds ws j.all d w cd cw;
    there = λ d cd p below.
        let senders = (desk_known d cd).tied.ends.senders in
        All-contains (λ (d : EndedView). HasWorkers (length d.ledgers) ws) ds d j.all.whole.workers cd (p + 1)
        (omega arith) (omega (arith, senders, below));
    few = desk_place;
  }

  -- the journal's entries of thread t
  abbrev entries_of : ℕ → List Entry → List Entry
  entries_of t J = filter (λ e. e.0.thread == t) J

  -- what a worker's end has sent
  answered : (d : EndedView) (w : Served) → Contains ds d → Contains ws w → (e : Answering)
      → slice_get w.ends (d.thread - 1) ≡ Some e
      → e.sent ≡ map (completion_of w.number) (entries_of d.thread w.journal)
  answered d w cd cw e at =
      let t : d.thread - 1 + 1 ≡ d.thread = omega (arith, desk_number ds ws j.all d cd) in
      search (arith, sent_there, worker_known, w.ends)

  completion_answers : (d : EndedView) → Contains ds d → All Answers (column (completion_columns ws) (d.thread - 1))
  completion_answers d cd = each_end completion_side Answers d cd (λ w e cw at.
      let index : e.index + 1 ≡ w.number =
      ap (λ (e : Answering). e.index + 1) (own_end completion_side w d cw cd e at)
      ∙ (completion_side.sends w d cw cd).3 in (
        entries_of d.thread w.journal,
        answered d w cd cw e at
            ∙ ap (λ m. map (completion_of m) (entries_of d.thread w.journal)) (sym index),
      ))

  -- ---- a desk and a worker whose lanes were closed

  module _ (d : EndedView) (w : Served) (cd : Contains ds d) (cw : Contains ws w) where
    -- the journal has of the thread what it sent
    carried : IsClosed w.receiver (column (request_columns ds) (w.number - 1))
        → of_thread d.thread (requests w.journal) ≡ numbered d.thread 0 (ledger d.ledgers w.number).sent
    carried hs =
        let own = sends_at ds ws j.all d w cd cw in
        let e = own.0 in
        let ans = answers_at ds ws j.all d w cd cw in
        let place = slice_get_within w.ends (d.thread - 1) ans.0 ans.1 in
        let below : e.index < w.manager.threads = omega (arith, place, (worker_known w cw).lanes, own.3) in
        ap (λ t. of_thread t (requests w.journal)) (sym own.3)
        ∙ All-contains IsOrdered ws w j.ordered cw e.index
        ∙ taken_whole w.receiver (column (request_columns ds) (w.number - 1)) hs e
        (end_in request_side d w cd cw e own.1) ((worker_known w cw).ended e.index below)
        ∙ sym (sent_there d.requests (w.number - 1) e own.1)
        ∙ (desk_known d cd).tied.sent w.number (known_at d w cd cw)

    -- what was collected is what the journal answers
    coded_at : IsClosed w.receiver (column (request_columns ds) (w.number - 1))
        → IsClosed d.completions (column (completion_columns ws) (d.thread - 1))
        → (p : ℕ × Code) → Contains d.drained (record { manager = w.number; number = p.0; code = p.1 })
        → slice_get (answers d.thread w.journal) p.0 ≡ Some p
    coded_at hs ha p drawn =
        let own = answers_at ds ws j.all d w cd cw in
        let c : Completion = record { manager = w.number; number = p.0; code = p.1 } in
        let q =
        drawn_law d.completions (column (completion_columns ws) (d.thread - 1)) ha (completion_answers d cd) w.number
        own.0 (entries_of d.thread w.journal) (end_in completion_side w d cw cd own.0 own.1) own.3
        (answered d w cd cw own.0 own.1) c refl
        (in_part c d.drained (arrived d.completions.taken) (desk_known d cd).tied.drained_ drawn) in
        let here = placed d.thread w.journal (ledger d.ledgers w.number).sent q.0 (carried hs) q.1 in
        subst (λ (v : ℕ × Code). slice_get (answers d.thread w.journal) v.0 ≡ Some v)
        (λ i. (ap (λ (v : Completion). v.number) q.2 i, ap (λ (v : Completion). v.code) q.2 i)) here

    pub pair_agrees : IsClosed w.receiver (column (request_columns ds) (w.number - 1))
        → IsClosed d.completions (column (completion_columns ws) (d.thread - 1))
        → Agree d.thread (ledger d.ledgers w.number).sent (ledger d.ledgers w.number).collected w.journal
    pair_agrees hs ha =
        let k = known_at d w cd cw in
        let settled = (desk_known d cd).settled w.number k in
        let A = ledger d.ledgers w.number in
        search (arith, carried, coded_at, in_drained, desk_known, settled.all, settled.below)

  -- ---- what closing the lanes asks

  pub request_lanes : AreLanesOf (request_columns ds) (map worker_lane ws)
  request_lanes = record {
    closable = lanes_closable request_side;
    places = lanes_places request_side;
    apart = lanes_apart seat_of_done AreApartWorkers worker_opening (λ w. w.number) (λ w. w.receiver)
        (λ a b apart. apart) (first_opening ds ws) ws j.all.from.workers_apart j.all.one.1 (worker_number ds ws j.all);
  }

  pub completion_lanes : AreLanesOf (completion_columns ws) (map desk_lane ds)
  completion_lanes = record {
    closable = lanes_closable completion_side;
    places = lanes_places completion_side;
    apart = lanes_apart seat_of_ended AreApartDesks desk_opening (λ d. d.thread) (λ d. d.completions)
        (λ a b apart. apart) (first_opening ds ws) ds j.all.from.desks_apart j.all.one.0 (desk_number ds ws j.all);
  }
