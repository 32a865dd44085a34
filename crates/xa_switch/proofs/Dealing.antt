-- Rows that are dealt into columns: ends of lanes by desk and by worker, as an opening makes them and as they are
-- gathered again.
use Rattle.xa_base.proofs.{pairs_append, length-drop, next_left, contains_map, ◌≡◌, ℕ, zero, suc, ◌+◌, ◌<◌, ◌≤◌, List}
use Rattle.xa_base.proofs.{[], ◌∷◌, ◌++◌, length, map, set, get_or, slice_get, drop, refl, sym, ap, arith}
use Rattle.xa_base.proofs.{length-append, inl, inr, Some, All, get_or-map as get_or-map', length-map, option_map}
use Rattle.xa_base.proofs.{into_iter_items, into_iter_len, slice_get_within, slice_get-map, slice_get-get_or, got_push}
use Rattle.xa_base.proofs.{map-append, All-map, all_unmapped, ◌∙◌, replicate, vec_capacity, AllPairs, get_or-set_other}
use Rattle.xa_base.proofs.{next_place, taken_next, ◌≢◌, All-append, all_left, map-set, length-replicate}
use Rattle.xa_base.proofs.{get_or_append_left, All-permutation, Contains, Contains-append_left, Contains-append_right}
use Rattle.xa_base.proofs.{get_or-replicate, flat_map, Option, None, All-nil, All-cons, append-nil, append_assoc}
use Rattle.xa_base.proofs.{same_Some, Bool, ◌==◌, ◌&&◌, false, and_parts, eqb-true, eq-eqb, both_ways}
use Rattle.xa_base.proofs.{false_from_ne_true, nat_tests, All-contains, Contains-get_or}
use Rattle.std.specs.Option.{option_to_list}
use Rattle.std.specs.declared.vec.IntoIter.{IntoIter}
use Rattle.xa_switch.specs.{put_row, Each, lane_to, AreNewLanes, dealt, column, HasTaken, HasRoomForPiece, TakesInPiece}
use Rattle.xa_switch.specs.{Gathered, DeskSeat, WorkerSeat, AreTogether, AreApartDesks, AreApartWorkers}
use Rattle.xa_switch.specs.{ComeFromOpenings, AreSomeOf, openings_of}
use Rattle.xa_lane.specs.{LaneName, QueueId, Sending, Receiving, new_sender, new_senders, new_receiver}
use Rattle.std.proofs.lemmas.Map.Keys.{IsDistinct-IsPermutation, IsDistinct-from_apart, apart_from_distinct}
use Rattle.xa_tables.specs.{IsOpening}

-- ---- rows that are dealt into columns

module _ {X : Type 0} where
  pub put_none : (C : List (List X)) → put_row C [] ≡ C
  put_none [] = refl
  put_none (c ∷ cs) = refl

  pub put_row_more : (C : List (List X)) (Y : List X) (x : X) → length Y < length C
      → put_row C (Y ++ x ∷ []) ≡ set (put_row C Y) (length Y) (get_or C (length Y) [] ++ x ∷ [])
  put_row_more [] Y x h = absurd (omega arith)
  put_row_more (c ∷ cs) [] x h = ap (λ l. (c ++ x ∷ []) ∷ l) (put_none cs)
  put_row_more (c ∷ cs) (y ∷ Y) x h = ap (λ l. (c ++ y ∷ []) ∷ l) (put_row_more cs Y x (omega arith))

  -- one element more of a row, at the end of a column that no element of the row was dealt to
  pub dealt_more : {V : Type 0} (items : V → List X) (C₀ C : List V) (Y : List X) (d : V)
      → map items C ≡ put_row (map items C₀) Y → (x : X) (c : V)
      → length Y < length C₀ → items c ≡ items (get_or C₀ (length Y) d) ++ x ∷ []
      → map items (set C (length Y) c) ≡ put_row (map items C₀) (Y ++ x ∷ [])
  dealt_more items C₀ C Y d dealt x c below e = search (arith, length-map, map-set, get_or-map', put_row_more)

pub length_put : {X : Type 0} (C : List (List X)) (row : List X) → length (put_row C row) ≡ length C
length_put [] row = refl
length_put (c ∷ cs) [] = refl
length_put (c ∷ cs) (y ∷ row) = ap suc (length_put cs row)

-- ---- elements by their places

pub each_push : {X : Type 0} (P : ℕ → X → Type 0) (xs : List X) (x : X) → Each P xs → P (length xs) x
    → Each P (xs ++ x ∷ [])
each_push P xs x each last k y e =
    elim (got_push xs x k y e) [ inl before ↦ each k y before | inr here ↦ rw (here.0, here.1) last ]

-- what a column is after a row
pub put_cases : {X : Type 0} (C : List (List X)) (row : List X) (k : ℕ) (c' : List X) → length row ≡ length C
    → slice_get (put_row C row) k ≡ Some c'
    → (c : List X) × (x : X) × (slice_get C k ≡ Some c) × (slice_get row k ≡ Some x) × (c' ≡ c ++ x ∷ [])
put_cases [] row k c' e at = cc
put_cases (c ∷ cs) [] k c' e at = absurd (omega (arith, e))
put_cases (c ∷ cs) (x ∷ row) zero c' e at = let f : (c ++ x ∷ []) ≡ c' = cc in (c, x, refl, refl, sym f)
put_cases (c ∷ cs) (x ∷ row) (suc k) c' e at = put_cases cs row k c' (omega (arith, e)) at

-- ---- columns with room

module _ {X V : Type 0} (items : V → List X) (cap : V → ℕ) where
  -- columns of n elements, each with room for more than n, have room for one more
  pub room_more : (C : List V) (n most : ℕ) → Each (λ k c. length c ≡ n) (map items C) → All (λ c. most ≤ cap c) C
      → n < most
      → All (λ c. length (items c) < cap c) C
  room_more C n most deep caps low k d within =
      let at : slice_get (map items C) k ≡ Some (items (get_or C k d)) =
      search (arith, slice_get-map, option_map, slice_get-get_or) in
      omega (arith, deep k (items (get_or C k d)) at, caps k d within, low)

-- columns whose capacities stay keep their room
pub room_stays : {V : Type 0} (cap : V → ℕ) (C D : List V) (most : ℕ) → map cap D ≡ map cap C
    → All (λ c. most ≤ cap c) C → All (λ c. most ≤ cap c) D
room_stays cap C D most same room = all_unmapped cap (λ n. most ≤ n) D (rw same (All-map (λ n. most ≤ n) cap C room))

-- ---- a list that is taken from its front

-- of xs as many were taken as were yielded of another list, and what is left is still to come
pub record IsLeft {X Y Z : Type 0} (xs : List X) (yielded : List Y) (it : IntoIter X Z) : Type 0 where
  pub within : length yielded ≤ length xs
  pub items : into_iter_items it ≡ drop (length yielded) xs
  pub counted : into_iter_len it ≡ length (into_iter_items it)

module _ {X Y Z : Type 0} {xs : List X} {ys : List Y} {it : IntoIter X Z} (left : IsLeft xs ys it) where
  -- the next of both, and what is left then
  pub next_of : {x : X} (y : Y) (it' : IntoIter X Z)
      → (into_iter_items it ≡ x ∷ into_iter_items it') × (into_iter_len it' + 1 ≡ into_iter_len it)
      → (slice_get xs (length ys) ≡ Some x) × IsLeft xs (ys ++ y ∷ []) it'
  next_of {x = x} y it' (next, fewer) =
      let here = next_left xs (into_iter_items it') (length ys) x (sym left.items ∙ next) in
      let more = length-append ys (y ∷ []) in (
        here.0,
        record {
          within = (let inside = slice_get_within xs (length ys) x here.0 in omega (arith, inside, more));
          items = sym here.1 ∙ ap (λ n. drop n xs) (omega (arith, more));
          counted = omega (arith, left.counted, ap length next, fewer);
        },
      )

  -- at its end as many were yielded as it has, so it isn't there while another list, of as many elements, has one more
  pub ends_so : into_iter_len it ≡ 0 → length ys ≡ length xs
  ends_so ended = omega (arith, left.within, ap length left.items, length-drop (length ys) xs, left.counted, ended)

  pub not_ended : {Z' : Type 0} {zs : List Y} {jt : IntoIter Y Z'} → IsLeft zs ys jt → length xs ≡ length zs → (n : ℕ)
      → n + 1 ≡ into_iter_len jt
      → into_iter_len it ≡ 0 → ⊥
  not_ended {zs = zs} {jt = jt} other many n more ended =
      omega (arith, ends_so ended, many, ap length other.items, length-drop (length ys) zs, other.counted, more)

-- one more, and how many there are then
pub push_more : {X : Type 0} (P : ℕ → X → Type 0) (xs new : List X) (x : X) (n m : ℕ) → length xs ≡ n → m ≡ n + 1
    → new ≡ xs ++ x ∷ [] → Each P xs → P n x
    → (length new ≡ m) × Each P new
push_more P xs new x n m many next are each last =
    (omega (arith, many, next, length-append xs (x ∷ []), ap length are), rw are (each_push P xs x each (rw many last)))

-- ---- the ends of new lanes

pub length_senders : (T : Type 0) (lane : LaneName) (line : QueueId) (capacity n : ℕ)
    → length (new_senders {T = T} lane line capacity n) ≡ n
length_senders T lane line capacity zero = refl
length_senders T lane line capacity (suc n) = search (arith, length_senders T lane line capacity n, length-append)

module _ {T : Type 0} where
  pub sender_at : (lane : LaneName) (line : QueueId) (capacity n k : ℕ) (s : Sending T)
      → slice_get (new_senders lane line capacity n) k ≡ Some s
      → s ≡ new_sender lane line capacity k
  sender_at lane line capacity zero k s e = cc
  sender_at lane line capacity (suc n) k s e =
      elim (got_push (new_senders lane line capacity n) (new_sender lane line capacity n) k s e) [
        | inl before ↦ sender_at lane line capacity n k s before
        | inr last ↦ last.1
            ∙ ap (λ i. new_sender lane line capacity i) (sym (last.0 ∙ length_senders T lane line capacity n))
      ]

  -- lanes with one more
  pub one_more_lane : (opening kind senders lanes room : ℕ) (C : List (List (Sending T))) (rs : List (Receiving T))
      (row : List (Sending T)) (r : Receiving T)
      → AreNewLanes opening kind senders lanes room C rs
      → row ≡ new_senders (lane_to opening kind (lanes + 1)) r.line room senders
      → r ≡ new_receiver (lane_to opening kind (lanes + 1)) r.line room senders
      → AreNewLanes opening kind senders (lanes + 1) room (put_row C row) (rs ++ r ∷ [])
  one_more_lane opening kind senders lanes room C rs row r are is_row is_r =
      search (
        arith,
        length_senders,
        sender_at,
        slice_get,
        r.line,
        length-append,
        each_push,
        length_put,
        put_cases,
        got_push,
        slice_get_within,
      )

-- ---- ends of lanes that are dealt by row into the column of their lane

module _ {X : Type 0} where
  pub length_dealt : (C rows : List (List X)) → length (dealt C rows) ≡ length C
  length_dealt C [] = refl
  length_dealt C (row ∷ rows) = length_dealt (put_row C row) rows ∙ length_put C row

  pub dealt_snoc : (C rows : List (List X)) (row : List X) → dealt C (rows ++ row ∷ []) ≡ put_row (dealt C rows) row
  dealt_snoc C [] row = refl
  dealt_snoc C (r ∷ rows) row = dealt_snoc (put_row C r) rows row

  -- the elements at a place of the rows, of those that have it
  abbrev pub at_place : ℕ → List (List X) → List X
  at_place k rows = flat_map (λ row. option_to_list (slice_get row k)) rows

  -- they are added to the column at that place
  put_column : (C : List (List X)) (row : List X) (k : ℕ) (rest : List X) → k < length C
      → column (put_row C row) k ++ rest ≡ column C k ++ (option_to_list (slice_get row k) ++ rest)
  put_column [] row k rest below = absurd (omega (arith, below))
  put_column (c ∷ cs) [] k rest below = refl
  put_column (c ∷ cs) (y ∷ row) zero rest below = append_assoc c (y ∷ []) rest
  put_column (c ∷ cs) (y ∷ row) (suc k) rest below = put_column cs row k rest (omega (arith, below))

  dealt_column : (C rows : List (List X)) (k : ℕ) → k < length C
      → column (dealt C rows) k ≡ column C k ++ at_place k rows
  dealt_column C [] k below = sym (append-nil (column C k))
  dealt_column C (row ∷ rows) k below =
      dealt_column (put_row C row) rows k (omega (arith, below, length_put C row))
      ∙ put_column C row k (at_place k rows) below

  -- where all columns were empty
  pub fresh_column : (n : ℕ) (rows : List (List X)) (k : ℕ) → k < n
      → column (dealt (replicate n []) rows) k ≡ at_place k rows
  fresh_column n rows k below =
      dealt_column (replicate n []) rows k (omega (arith, below, length-replicate {A = List X} n []))
      ∙ ap (λ l. l ++ at_place k rows) (get_or-replicate n k [] [] below)

  -- each element of a row is at its place
  pub placed : (rows : List (List X)) (k i : ℕ) (row : List X) (x : X) → slice_get rows i ≡ Some row
      → slice_get row k ≡ Some x → Contains (at_place k rows) x
  placed [] k i row x e f = cc
  placed (r ∷ rows) k zero row x e f =
      let here : slice_get r k ≡ Some x = ap (λ l. slice_get l k) (same_Some r row e) ∙ f in
      Contains-append_left (option_to_list (slice_get r k)) (at_place k rows) x (rw here (0, omega arith, refl))
  placed (r ∷ rows) k (suc i) row x e f =
      Contains-append_right (option_to_list (slice_get r k)) (at_place k rows) x (placed rows k i row x e f)

  -- what holds of each row's element holds of all
  pub all_placed : (P : X → Type 0) (rows : List (List X)) (k : ℕ)
      → ((i : ℕ) (row : List X) (x : X) → slice_get rows i ≡ Some row → slice_get row k ≡ Some x → P x)
      → All P (at_place k rows)
  all_placed P [] k each = All-nil P
  all_placed P (row ∷ rows) k each =
      All-append P (option_to_list (slice_get row k)) (at_place k rows)
      (one (slice_get row k) (λ x e. each 0 row x refl e))
      (all_placed P rows k (λ i r x e f. each (suc i) r x e f))
    where
      one : (o : Option X) → ((x : X) → o ≡ Some x → P x) → All P (option_to_list o)
      one None so = All-nil P
      one (Some y) so = All-cons P y [] (so y refl) (All-nil P)

  few_placed : (rows : List (List X)) (k : ℕ) → length (at_place k rows) ≤ length rows
  few_placed [] k = omega arith
  few_placed (row ∷ rows) k = grind (arith, few_placed rows k, length-append)

  -- columns with room for as many as there are rows have room for one row more
  pub room_for_row : {V : Type 0} (items : V → List X) (cap : V → ℕ) (C : List V) (rows : List (List X)) (m n : ℕ)
      → map items C ≡ dealt (replicate m []) rows → All (λ c. n ≤ cap c) C → length rows < n
      → All (λ c. length (items c) < cap c) C
  room_for_row items cap C rows m n dealt_is room few k d below =
      let wide = ap length dealt_is ∙ length_dealt (replicate m []) rows in
      let there : k < m = omega (arith, below, wide, length-map C items, length-replicate {A = List X} m []) in
      let here = sym (get_or-map' items C k d [] below) ∙ ap (λ l. column l k) dealt_is ∙ fresh_column m rows k there in
      omega (arith, ap length here, few_placed rows k, room k d below, few)

module _ {V X : Type 0} (items : V → List X) where
  -- a list of which another was replaced
  pub column_kept : (C : List V) (k j : ℕ) (c : V) → (k ≡ j → ⊥)
      → column (map items (set C j c)) k ≡ column (map items C) k
  column_kept C k j c n =
      ap (λ l. get_or l k []) (map-set items C j c) ∙ get_or-set_other (map items C) j k (items c) [] n

-- ---- pieces that are taken in

-- the first of xs were taken in, by their rows of ends, their lanes and their parts, and the others are still to come
pub record Gathers {E R P X Z : Type 0} (f : X → List E) (g : X → ℕ × R) (h : X → P) (xs Y : List X) (it : IntoIter X Z)
    (r : Gathered E R P) : Type 0 where
  pub so_far : Y ++ into_iter_items it ≡ xs
  pub counted : into_iter_len it ≡ length (into_iter_items it)
  pub taken : HasTaken (length xs) (map f Y) (map g Y) (map h Y) r

module _ {E R P X Z : Type 0} {f : X → List E} {g : X → ℕ × R} {h : X → P} {xs Y : List X} {it : IntoIter X Z}
    {r : Gathered E R P}
    (so : Gathers f g h xs Y it r) (it' : IntoIter X Z) (x : X)
    (next : into_iter_items it ≡ x ∷ into_iter_items it') where
  -- there is room for one more
  pub room_left : HasRoomForPiece r
  room_left =
      let few : length Y < length xs =
      omega (arith, ap length so.so_far, ap length next, length-append Y (into_iter_items it)) in
      let taken = so.taken in
      record {
        columns =
            room_for_row (λ c. c.items) (λ c. vec_capacity c) r.columns.items (map f Y) 8 (length xs) taken.columns
            taken.deep
            (let l = length-map Y f in omega (arith, l, few));
        lanes = let l = length-map Y g in let e = ap length taken.lanes in let c = taken.lanes_room in omega
            (arith, l, e, c, few);
        parts = let l = length-map Y h in let e = ap length taken.parts in let c = taken.parts_room in omega
            (arith, l, e, c, few);
      }

  -- its row is as short as the eight columns are many
  pub row_fits : (size : X → ℕ) (all : List X) (row : List E) → xs ≡ all → All (λ x. size x ≤ 8) all
      → length row ≡ size x → length row ≤ length r.columns.items
  row_fits size all row are few long =
      let place = next_place Y _ (into_iter_items it') all x next (so.so_far ∙ are) in
      let eight : length r.columns.items ≡ 8 = search (arith, length-map, length_dealt) in
      omega (arith, few (length Y) x place.0, ap size place.1, long, eight)

  -- and where it was taken in, the others are still to come
  pub one_more_taken : into_iter_len it' + 1 ≡ into_iter_len it → (r' : Gathered E R P)
      → TakesInPiece (f x) (g x) (h x) r r'
      → Gathers f g h xs (Y ++ x ∷ []) it' r'
  one_more_taken fewer r' takes =
      let taken = so.taken in
      record {
        so_far = taken_next Y _ (into_iter_items it') _ x next so.so_far;
        counted = let n = so.counted in let more = ap length next in omega (arith, n, fewer, more);
        taken = record {
          columns = search (arith, dealt_snoc, map-append);
          deep = room_stays (λ c. vec_capacity c) r.columns.items r'.columns.items (length xs) takes.depth taken.deep;
          lanes = takes.lanes ∙ ap (λ l. l ++ g x ∷ []) taken.lanes ∙ sym (map-append g Y (x ∷ []));
          lanes_room = let e = takes.lanes_room in let c = taken.lanes_room in omega (arith, e, c);
          parts = takes.parts ∙ ap (λ l. l ++ h x ∷ []) taken.parts ∙ sym (map-append h Y (x ∷ []));
          parts_room = let e = takes.parts_room in let c = taken.parts_room in omega (arith, e, c);
        };
      }

-- ---- some of them, in any order

-- elements of which no two have both numbers in common
module _ {X : Type 0} (f g : X → ℕ) where
  abbrev alike : X → X → Bool
  alike x y = (f x == f y) && (g x == g y)

  differ : (x y : X) → (f x ≡ f y → g x ≢ g y) → alike x y ≡ false
  differ x y apart = false_from_ne_true (alike x y) (λ e.
      let (first, second) = and_parts (f x == f y) (g x == g y) e in
      apart (eqb-true (f x) (f y) first) (eqb-true (g x) (g y) second))

  flips : (x y : X) → alike x y ≡ alike y x
  flips x y = grind (arith, nat_tests)

  pairs_some : (xs ys : List X) → AreSomeOf xs ys → AllPairs (λ x y. f x ≡ f y → g x ≢ g y) ys
      → AllPairs (λ x y. f x ≡ f y → g x ≢ g y) xs
  pairs_some xs ys (rest, moved) h i k d lt below e e' =
      let all =
      IsDistinct-IsPermutation alike flips ys (xs ++ rest) moved
      (IsDistinct-from_apart alike ys (λ j l z first last. differ _ _ (h j l z first last))) in
      let no = apart_from_distinct alike (xs ++ rest) i k d all lt (omega (arith, below, length-append xs rest)) in
      let at = get_or_append_left xs rest d i (omega (arith, lt, below)) in
      both_ways _ (rw (at, get_or_append_left xs rest d k below) at no) (λ j. eq-eqb _ _ e j && eq-eqb _ _ e' j)

all_some : {X : Type 0} (P : X → Type 0) (xs ys : List X) → AreSomeOf xs ys → All P ys → All P xs
all_some P xs ys s h = all_left P xs s.0 (All-permutation P ys (xs ++ s.0) s.1 h)

pub some_come : (ds ds' : List DeskSeat) (ws ws' : List WorkerSeat) → AreSomeOf ds' ds → AreSomeOf ws' ws
    → ComeFromOpenings ds ws → ComeFromOpenings ds' ws'
some_come ds ds' ws ws' some_ds some_ws h = record {
  together = all_some (λ d. All (AreTogether d) ws') ds' ds some_ds
      (λ k d below. all_some (AreTogether (get_or ds k d)) ws' ws some_ws (h.together k d below));
  desks_apart = pairs_some (λ d. d.lane.opening) (λ d. d.thread) ds' ds some_ds h.desks_apart;
  workers_apart = pairs_some (λ w. w.lane.opening) (λ w. w.number) ws' ws some_ws h.workers_apart;
  opened = all_some (λ w. IsOpening w.first) ws' ws some_ws h.opened;
}

-- ---- several openings

-- the number of a piece is among those of its opening
of_desk : (ds : List DeskSeat) (ws : List WorkerSeat) (k : ℕ) (d : DeskSeat) → k < length ds
    → Contains (openings_of ds ws) (get_or ds k d).lane.opening
of_desk ds ws k d below =
    Contains-append_left (map (λ d. d.lane.opening) ds) _ _
    (contains_map (λ (d : DeskSeat). d.lane.opening) ds _ (Contains-get_or ds k d below))

of_worker : (ds : List DeskSeat) (ws : List WorkerSeat) (k : ℕ) (w : WorkerSeat) → k < length ws
    → Contains (openings_of ds ws) (get_or ws k w).lane.opening
of_worker ds ws k w below =
    Contains-append_right (map (λ d. d.lane.opening) ds) _ _
    (contains_map (λ (w : WorkerSeat). w.lane.opening) ws _ (Contains-get_or ws k w below))

module _ (ds ds' : List DeskSeat) (ws ws' : List WorkerSeat)
    (own : All (λ a. All (λ b. a ≢ b) (openings_of ds' ws')) (openings_of ds ws)) where
  differs : (a b : ℕ) → Contains (openings_of ds ws) a → Contains (openings_of ds' ws') b → a ≡ b → ⊥
  differs a b here there =
      All-contains (λ b. a ≢ b) (openings_of ds' ws') b
      (All-contains (λ a. All (λ b. a ≢ b) (openings_of ds' ws')) (openings_of ds ws) a own here) there

  pub mixed_come : ComeFromOpenings ds ws → ComeFromOpenings ds' ws' → ComeFromOpenings (ds ++ ds') (ws ++ ws')
  mixed_come h h' = record {
    together =
        All-append (λ d. All (AreTogether d) (ws ++ ws')) ds ds'
        (λ k d below. All-append (AreTogether (get_or ds k d)) ws ws' (h.together k d below)
        (λ j w low e. absurd (differs _ _ (of_desk ds ws k d below) (of_worker ds' ws' j w low) e)))
        (λ k d below. All-append (AreTogether (get_or ds' k d)) ws ws'
        (λ j w low e. absurd (differs _ _ (of_worker ds ws j w low) (of_desk ds' ws' k d below) (sym e)))
        (h'.together k d below));
    desks_apart = pairs_append AreApartDesks ds ds' h.desks_apart h'.desks_apart
        (λ k d below j c low e. absurd (differs _ _ (of_desk ds ws k d below) (of_desk ds' ws' j c low) e));
    workers_apart = pairs_append AreApartWorkers ws ws' h.workers_apart h'.workers_apart
        (λ k d below j c low e. absurd (differs _ _ (of_worker ds ws k d below) (of_worker ds' ws' j c low) e));
    opened = All-append (λ w. IsOpening w.first) ws ws' h.opened h'.opened;
  }
