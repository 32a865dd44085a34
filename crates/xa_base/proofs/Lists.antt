-- Lemmas of lists: what is in their places, lists side by side, and numbers that follow each other.
use Rattle.std.proofs.Common.{append_assoc, append-nil, ◌≡◌, ◌≢◌, ℕ, ◌+◌, ◌-◌, ◌<◌, ◌≤◌, ◌⊎◌, ⊎_elim, zero, suc, Bool}
use Rattle.std.proofs.Common.{true, false, cond, ◌==◌, ◌||◌, List, [], ◌∷◌, ◌++◌, length, map, Some, None, sym, refl}
use Rattle.std.proofs.Common.{ap, ◌∙◌, inl, inr, arith, length-append, take, drop, drop-cons}
use Rattle.std.specs.Prelude.{slice_get, slice_set, option_map, All}
use Rattle.std.specs.List.{AllByRecursion, AllPairs, Contains, IsDistinct, filter, flat_map, slice_index_or}
use Rattle.std.specs.List.{range_with_len, list_any, find}
use Rattle.std.proofs.lemmas.Bool.{cases_eq, cases_lt, eq-eqb, eqb-true, false_from_ne_true, or_parts}
use Rattle.std.proofs.lemmas.List.{length-map, map-id, length-set, get_or-set_other, get_or-set_same, get_or_at}
use Rattle.std.proofs.lemmas.List.{take-append-drop}
pub use Rattle.std.proofs.lemmas.Option.{same_Some as some_same}
pub use Rattle.std.proofs.lemmas.List.Quantifiers.{all_pairs_push as pairs_push}
use Rattle.std.proofs.lemmas.Option.{slice_get_within, slice_get-map, slice_get-get_or, slice_get_cases}
use Rattle.std.proofs.lemmas.Option.{get_or_from_slice_get}
use Rattle.std.proofs.Math.Seq.{take-suc}
use Rattle.std.proofs.lemmas.List.Elements.{All-append, All-nil, All-cons, All-head, All-tail, All-push, filter-append}
use Rattle.std.proofs.lemmas.List.FromFn.{length-range_with_len, get_or-range_with_len}
use Rattle.std.proofs.lemmas.List.Kept.{AllPairs-cons}
use Rattle.xa_base.specs.{Begins, Pairwise}

-- what is in a place
pub got : {A : Type 0} (xs : List A) (k : ℕ) → k < length xs → (x : A) × (slice_get xs k ≡ Some x)
got {A} xs k below =
    ⊎_elim (λ (h : (x : A) × (k < length xs) × (slice_get xs k ≡ Some x) × (slice_index_or xs k x ≡ x)). (h.0, h.2))
    (λ (h : (length xs ≤ k) × (slice_get xs k ≡ None)). absurd (let past = h.0 in omega (arith, past, below)))
    (slice_get_cases xs k).1

-- and once each element was changed
pub got_map : {A B : Type 0} (f : A → B) (xs : List A) (k : ℕ) (x : A) → slice_get xs k ≡ Some x
    → slice_get (map f xs) k ≡ Some (f x)
got_map f xs k x there = slice_get-map f xs k ∙ ap (option_map f) there

-- an element that was written is there, and the others stay
pub got_set : {A : Type 0} (xs : List A) (i : ℕ) (y : A) (k : ℕ) (z : A) → i < length xs
    → slice_get (slice_set xs i y) k ≡ Some z
    → ((k ≡ i) × (z ≡ y)) ⊎ (slice_get xs k ≡ Some z)
got_set {A} xs i y k z inside at =
    let within : k < length (slice_set xs i y) = slice_get_within (slice_set xs i y) k z at in
    let size = length-set xs i y in
    let is : slice_index_or (slice_set xs i y) k z ≡ z =
    some_same _ z (sym (slice_get-get_or (slice_set xs i y) k z within) ∙ at) in
    elim (cases_eq k i) [
      | inl same ↦ inl
          (same, sym is ∙ ap (λ n. slice_index_or (slice_set xs i y) n z) same ∙ get_or-set_same xs i y z inside)
      | inr differs ↦
          let stays : slice_index_or (slice_set xs i y) k z ≡ slice_index_or xs k z =
          get_or-set_other xs i k y z differs in
          inr (slice_get-get_or xs k z (omega (arith, within, size)) ∙ ap (λ (x : A). Some x) (sym stays ∙ is))
    ]

-- an element that was written is there
pub set_there : {A : Type 0} (xs : List A) (i : ℕ) (y : A) → i < length xs → slice_get (slice_set xs i y) i ≡ Some y
set_there xs i y inside =
    slice_get-get_or (slice_set xs i y) i y (omega (arith, inside, length-set xs i y))
    ∙ ap Some (get_or-set_same xs i y y inside)

-- the last of a list, or one before it
pub got_push : {A : Type 0} (xs : List A) (x : A) (k : ℕ) (y : A) → slice_get (xs ++ x ∷ []) k ≡ Some y
    → (slice_get xs k ≡ Some y) ⊎ ((k ≡ length xs) × (y ≡ x))
got_push [] x zero y e = inr (refl, some_same y x (sym e))
got_push [] x (suc k) y e = absurd (cc)
got_push (z ∷ xs) x zero y e = inl e
got_push {A} (z ∷ xs) x (suc k) y e = search (arith, got_push xs x k y e)

module _ {A B : Type 0} (P : A → B → Type 0) where
  pub none_side : (xs : List A) (ys : List B) → xs ≡ [] → ys ≡ [] → Pairwise P xs ys
  none_side xs ys e f = search (arith, slice_get_within)

  pub push_side : (xs : List A) (ys : List B) (x : A) (y : B) → Pairwise P xs ys → P x y
      → Pairwise P (xs ++ x ∷ []) (ys ++ y ∷ [])
  push_side xs ys x y all here = search (arith, length-append, slice_get_within, got_push, all.as_many, all.each)

pub one_more : {A : Type 0} (xs : List A) (i : ℕ) (x : A) → i < length xs → x ≡ slice_index_or xs i x
    → take (i + 1) xs ≡ take i xs ++ x ∷ []
one_more xs i x below is = search (arith, take-suc)

pub take_next : {A : Type 0} (xs : List A) (i : ℕ) (x : A) → slice_get xs i ≡ Some x
    → take (i + 1) xs ≡ take i xs ++ x ∷ []
take_next xs i x at = search (arith, slice_get_within, one_more, some_same, slice_get-get_or)

-- one more number
pub range_suc : (a n : ℕ) → range_with_len a (suc n) ≡ range_with_len a n ++ (a + n) ∷ []
range_suc a zero = let same : a ≡ a + 0 = omega arith in ap (λ x. x ∷ []) same
range_suc a (suc n) = search (arith, range_suc (a + 1) n)

pub range_more : (n : ℕ) → range_with_len 1 (n + 1) ≡ range_with_len 1 n ++ (n + 1) ∷ []
range_more n =
    let next_one : n + 1 ≡ suc n = omega arith in
    let last : 1 + n ≡ n + 1 = omega arith in
    ap (range_with_len 1) next_one ∙ range_suc 1 n ∙ ap (λ x. range_with_len 1 n ++ x ∷ []) last

-- the element after the first ones
pub next_there : {A : Type 0} (xs ys rest : List A) (x : A) → ys ++ x ∷ rest ≡ xs → slice_get xs (length ys) ≡ Some x
next_there {A} xs ys rest x e = ap (λ (l : List A). slice_get l (length ys)) (sym e) ∙ behind ys
  where
    behind : (ys : List A) → slice_get (ys ++ x ∷ rest) (length ys) ≡ Some x
    behind [] = refl
    behind (y ∷ ys) = behind ys

-- what a list has in a place, one that goes on from it has there too
pub got_on : {A : Type 0} (xs ys : List A) (n : ℕ) (y : A) → slice_get xs n ≡ Some y → slice_get (xs ++ ys) n ≡ Some y
got_on [] ys n y e = absurd (cc)
got_on (x ∷ xs) ys zero y e = e
got_on (x ∷ xs) ys (suc n) y e = got_on xs ys n y e

-- what follows the elements of a list
pub after_seam : {A : Type 0} (xs more : List A) (y : A) → slice_get (xs ++ more) (length xs) ≡ Some y
    → (rest : List A) × (more ≡ y ∷ rest)
after_seam [] [] y e = cc
after_seam [] (z ∷ rest) y e = (rest, ap (λ w. w ∷ rest) (some_same z y e))
after_seam (x ∷ xs) more y e = after_seam xs more y e

-- of a list that is taken from its front: the elements so far and one more, and where that one stands
pub taken_next : {A : Type 0} (ys left rest xs : List A) (x : A) → left ≡ x ∷ rest → ys ++ left ≡ xs
    → (ys ++ x ∷ []) ++ rest ≡ xs
taken_next ys left rest xs x step so_far = append_assoc ys (x ∷ []) rest ∙ ap (λ l. ys ++ l) (sym step) ∙ so_far

pub next_place : {A : Type 0} (ys left rest xs : List A) (x : A) → left ≡ x ∷ rest → ys ++ left ≡ xs
    → (length ys < length xs) × (slice_index_or xs (length ys) x ≡ x)
next_place ys left rest xs x step so_far = search (arith, length-append, get_or_at)

-- what goes from the first list to the second, and on to the third
pub through : {A B C : Type 0} (P : A → B → Type 0) (Q : B → C → Type 0) (R : A → C → Type 0)
    → ((a : A) (b : B) (c : C) → P a b → Q b c → R a c)
    → (xs : List A) (ys : List B) (zs : List C) → Pairwise P xs ys → Pairwise Q ys zs → Pairwise R xs zs
through P Q R goes xs ys zs p q = record {
  as_many = q.as_many ∙ p.as_many;
  each = λ k x z at_x at_z.
      let within = slice_get_within xs k x at_x in
      let many = p.as_many in
      let y = got ys k (omega (arith, within, many)) in
      goes x y.0 z (p.each k x y.0 at_x y.1) (q.each k y.0 z y.1 at_z);
}

-- a list without elements, in which none stands twice
pub none_of : {A : Type 0} (xs : List A) → length xs ≡ 0 → xs ≡ []
none_of [] e = refl
none_of (x ∷ xs) e = absurd (omega (arith, e))

pub none_twice : {A : Type 0} (same : A → A → Bool) → IsDistinct same []
unfolding IsDistinct
none_twice same = tt

-- ---- elements and what they are numbered

pub all_from : {A : Type 0} (P : A → Type 0) (xs : List A) → ((k : ℕ) (x : A) → slice_get xs k ≡ Some x → P x)
    → All P xs
all_from P xs is k d below = is k (slice_index_or xs k d) (slice_get-get_or xs k d below)

pub any_at : {A : Type 0} (p : A → Bool) (xs : List A) (k : ℕ) (x : A) → slice_get xs k ≡ Some x → p x ≡ true
    → list_any p xs ≡ true
any_at p [] k x at e = absurd (cc)
any_at {A} p (y ∷ xs) zero x at e =
    let same : y ≡ x = some_same y x at in ap (λ (z : A). p z || list_any p xs) same ∙ ap (λ b. b || list_any p xs) e
any_at p (y ∷ xs) (suc k) x at e = or_there (p y) (any_at p xs k x at e)
  where
    or_there : (b : Bool) → list_any p xs ≡ true → (b || list_any p xs) ≡ true
    or_there true f = refl
    or_there false f = f

pub tail_side : {A B : Type 0} (P : A → B → Type 0) (x : A) (xs : List A) (y : B) (ys : List B)
    → Pairwise P (x ∷ xs) (y ∷ ys) → Pairwise P xs ys
tail_side P x xs y ys all =
    record { as_many = let many = all.as_many in omega (arith, many); each = λ k. all.each (suc k) }

pub map_alike : {A B C : Type 0} (P : A → B → Type 0) (f : A → C) (g : B → C) → ((x : A) (y : B) → P x y → g y ≡ f x)
    → (xs : List A) (ys : List B)
    → Pairwise P xs ys → map g ys ≡ map f xs
map_alike P f g alike [] [] all = refl
map_alike P f g alike [] (y ∷ ys) all = absurd (let many = all.as_many in omega (arith, many))
map_alike P f g alike (x ∷ xs) [] all = absurd (let many = all.as_many in omega (arith, many))
map_alike P f g alike (x ∷ xs) (y ∷ ys) all =
    λ i. alike x y (all.each 0 x y refl refl) i ∷ map_alike P f g alike xs ys (tail_side P x xs y ys all) i

module _ {A B : Type 0} (P : A → B → Type 0) where
  each_after : (x : A) (xs : List A) (y : B) (ys : List B) → P x y → Pairwise P xs ys → (k : ℕ) (u : A) (v : B)
      → slice_get (x ∷ xs) k ≡ Some u
      → slice_get (y ∷ ys) k ≡ Some v → P u v
  each_after x xs y ys here rest zero u v at at' = rw (some_same x u at, some_same y v at') at here
  each_after x xs y ys here rest (suc k) u v at at' = rest.each k u v at at'

  pub both_sides : (xs us : List A) (ys vs : List B) → Pairwise P xs ys → Pairwise P us vs
      → Pairwise P (xs ++ us) (ys ++ vs)
  both_sides [] us [] vs all more = more
  both_sides [] us (y ∷ ys) vs all more = absurd (let many = all.as_many in omega (arith, many))
  both_sides (x ∷ xs) us [] vs all more = absurd (let many = all.as_many in omega (arith, many))
  both_sides (x ∷ xs) us (y ∷ ys) vs all more =
      let rest = both_sides xs us ys vs (tail_side P x xs y ys all) more in
      record {
        as_many = ap suc rest.as_many;
        each = each_after x (xs ++ us) y (ys ++ vs) (all.each 0 x y refl refl) rest;
      }

-- what is made of each on one side, what each has a part of, and what is the same on both sides
pub each_made : {A B : Type 0} (f : A → B) (xs : List A) (ys : List B) → Pairwise (λ x y. y ≡ f x) xs ys → ys ≡ map f xs
each_made {A} {B} f xs ys all =
    sym (map-id ys) ∙ map_alike (λ (x : A) (y : B). y ≡ f x) f (λ y. y) (λ x y e. e) xs ys all

pub each_part : {A B : Type 0} (f : B → A) (xs : List A) (ys : List B) → Pairwise (λ x y. f y ≡ x) xs ys → map f ys ≡ xs
each_part {A} {B} f xs ys all = map_alike (λ (x : A) (y : B). f y ≡ x) (λ x. x) f (λ x y e. e) xs ys all ∙ map-id xs

pub same_side : {A : Type 0} (xs ys : List A) → Pairwise (λ x y. y ≡ x) xs ys → ys ≡ xs
same_side xs ys all = sym (map-id ys) ∙ each_part (λ y. y) xs ys all

-- the element with its number, where they are numbered by rising place
pub find_numbered : {A : Type 0} (n : A → ℕ) (base : ℕ) (xs : List A)
    → ((k : ℕ) (x : A) → slice_get xs k ≡ Some x → n x ≡ base + k + 1) → (k : ℕ) (x : A)
    → slice_get xs k ≡ Some x → find (λ y. n y == base + k + 1) xs ≡ Some x
find_numbered n base [] numbers k x at = absurd (cc)
find_numbered {A} n base (y ∷ xs) numbers zero x at =
    ap (λ b. cond b (Some y) (find (λ z. n z == base + 0 + 1) xs)) (eq-eqb (n y) (base + 0 + 1) (numbers 0 y refl)) ∙ at
find_numbered n base (y ∷ xs) numbers (suc k) x at =
    let first : n y ≡ base + 0 + 1 = numbers 0 y refl in
    let other : (n y == base + suc k + 1) ≡ false =
    false_from_ne_true (n y == base + suc k + 1)
    (λ e. let same = eqb-true (n y) (base + suc k + 1) e in omega (arith, first, same)) in
    let there : suc base + k + 1 ≡ base + suc k + 1 = omega arith in
    ap (λ b. cond b (Some y) (find (λ z. n z == base + suc k + 1) xs)) other
    ∙ ap (λ j. find (λ z. n z == j) xs) (sym there)
    ∙ find_numbered n (suc base) xs (λ j z at_z. let e = numbers (suc j) z at_z in omega (arith, e)) k x at

pub find_none : {A : Type 0} (n : A → ℕ) (t : ℕ) (xs : List A) → ((k : ℕ) (x : A) → slice_get xs k ≡ Some x → n x ≢ t)
    → find (λ y. n y == t) xs ≡ None
find_none n t [] differs = refl
find_none n t (y ∷ xs) differs =
    ap (λ b. cond b (Some y) (find (λ z. n z == t) xs))
    (false_from_ne_true (n y == t) (λ e. differs 0 y refl (eqb-true (n y) t e)))
    ∙ find_none n t xs (λ k. differs (suc k))

pub was_mapped : {A B : Type 0} (f : A → B) (xs : List A) (k : ℕ) (y : B) → slice_get (map f xs) k ≡ Some y
    → (x : A) × (slice_get xs k ≡ Some x) × (f x ≡ y)
was_mapped f [] k y e = absurd (cc)
was_mapped f (x ∷ xs) zero y e = (x, refl, some_same (f x) y e)
was_mapped f (x ∷ xs) (suc k) y e = was_mapped f xs k y e

pub contains_at : {A : Type 0} (xs : List A) (k : ℕ) (x : A) → slice_get xs k ≡ Some x → Contains xs x
contains_at xs k x at = (k, slice_get_within xs k x at, get_or_from_slice_get xs k x x at)

-- what holds of all holds of the first ones and of the rest, of the one in the middle, and of those after it
pub all_left : {A : Type 0} (P : A → Type 0) (xs ys : List A) → All P (xs ++ ys) → All P xs
all_left P [] ys h = All-nil P
all_left P (x ∷ xs) ys h = All-cons P x xs (All-head P x (xs ++ ys) h) (all_left P xs ys (All-tail P x (xs ++ ys) h))

pub all_right : {A : Type 0} (P : A → Type 0) (xs ys : List A) → All P (xs ++ ys) → All P ys
all_right P [] ys h = h
all_right P (x ∷ xs) ys h = all_right P xs ys (All-tail P x (xs ++ ys) h)

pub all_mid : {A : Type 0} (P : A → Type 0) (xs ys : List A) (x : A) → All P (xs ++ x ∷ ys) → P x
all_mid P xs ys x h = All-head P x ys (all_right P xs (x ∷ ys) h)

pub at_mid : {A : Type 0} (P : A → Type 0) (xs : List A) (x : A) (ys : List A) → AllByRecursion P (xs ++ x ∷ ys) → P x
at_mid P [] x ys h = h.0
at_mid P (z ∷ xs) x ys h = at_mid P xs x ys h.1

pub all_after : {A : Type 0} (P : A → Type 0) (xs : List A) (x : A) (ys : List A) → All P (xs ++ x ∷ ys) → All P ys
all_after P xs x ys h = All-tail P x ys (all_right P xs (x ∷ ys) h)

-- what holds of all that is made of a list
pub all_unmapped : {A B : Type 0} (f : A → B) (P : B → Type 0) (xs : List A) → All P (map f xs) → All (λ x. P (f x)) xs
all_unmapped f P [] h = All-nil (λ x. P (f x))
all_unmapped f P (x ∷ xs) h =
    search (arith, all_unmapped f P xs (All-tail P (f x) (map f xs) h), All-cons, All-head, All-tail)

pub all_at : {A : Type 0} (P : A → Type 0) (xs : List A) (k : ℕ) (x : A) → All P xs → slice_get xs k ≡ Some x → P x
all_at P xs k x all at =
    let within = slice_get_within xs k x at in
    rw (some_same _ x (sym (slice_get-get_or xs k x within) ∙ at)) at (all k x within)

-- what holds of what is made of the elements of the first list, or of the second
pub side_of : {A B X : Type 0} (P : X → B → Type 0) (f : A → X) (xs : List A) (ys : List B)
    → Pairwise (λ x y. P (f x) y) xs ys → Pairwise P (map f xs) ys
side_of P f xs ys all = search (arith, length-map, was_mapped, all.each)

pub side_to : {A B Y : Type 0} (P : A → Y → Type 0) (g : B → Y) (xs : List A) (ys : List B)
    → Pairwise (λ x y. P x (g y)) xs ys → Pairwise P xs (map g ys)
side_to P g xs ys all = search (arith, length-map, was_mapped, all.each)

-- ---- lists that have grown

pub begins_same : {X : Type 0} (xs ys : List X) → ys ≡ xs → Begins xs ys
begins_same xs ys e = ([], e ∙ sym (append-nil xs))

pub same_begins : {X : Type 0} (xs : List X) → Begins xs xs
same_begins xs = begins_same xs xs refl

pub begins_on : {X : Type 0} (xs ys zs : List X) → Begins xs ys → Begins ys zs → Begins xs zs
begins_on xs ys zs p q = (p.0 ++ q.0, q.1 ∙ ap (λ l. l ++ q.0) p.1 ∙ append_assoc xs p.0 q.0)

-- ---- one more at the end

pub snoc_parts : {A : Type 0} (xs ys : List A) (x y : A) → xs ++ x ∷ [] ≡ ys ++ y ∷ [] → (xs ≡ ys) × (x ≡ y)
snoc_parts [] [] x y e = (refl, cc)
snoc_parts [] (b ∷ ys) x y e =
    let size = ap (λ l. length l) e in
    absurd (omega (arith, size, length-append ys (y ∷ [])))
snoc_parts (a ∷ xs) [] x y e =
    let size = ap (λ l. length l) e in
    absurd (omega (arith, size, length-append xs (x ∷ [])))
snoc_parts (a ∷ xs) (b ∷ ys) x y e =
    let head : a ≡ b = cc in
    let tail : xs ++ x ∷ [] ≡ ys ++ y ∷ [] = cc in
    let rest = snoc_parts xs ys x y tail in
    (λ i. head i ∷ rest.0 i, rest.1)

-- ---- what passes a test, of a list, of what is made of one, and of one more element

pub list_any-map : {X Y : Type 0} (p : Y → Bool) (f : X → Y) (xs : List X)
    → list_any p (map f xs) ≡ list_any (λ x. p (f x)) xs
list_any-map p f [] = refl
list_any-map p f (x ∷ xs) = ap (λ b. p (f x) || b) (list_any-map p f xs)

pub filter-map : {X Y : Type 0} (p : Y → Bool) (f : X → Y) (xs : List X)
    → filter p (map f xs) ≡ map f (filter (λ x. p (f x)) xs)
filter-map p f [] = refl
filter-map p f (x ∷ xs) = grind (arith, filter-map p f xs)

module _ {X : Type 0} (p : X → Bool) where
  pub filter_push : (xs : List X) (x : X) → p x ≡ true → filter p (xs ++ x ∷ []) ≡ filter p xs ++ x ∷ []
  filter_push xs x e = filter-append p xs (x ∷ []) ∙ ap (λ b. filter p xs ++ cond b (x ∷ []) []) e

  pub filter_skip : (xs : List X) (x : X) → p x ≡ false → filter p (xs ++ x ∷ []) ≡ filter p xs
  filter_skip xs x e =
      filter-append p xs (x ∷ []) ∙ ap (λ b. filter p xs ++ cond b (x ∷ []) []) e ∙ append-nil (filter p xs)

  pub filter_all : (xs : List X) → All (λ x. p x ≡ true) xs → filter p xs ≡ xs
  filter_all [] all = refl
  filter_all (x ∷ xs) all =
      rw (All-head (λ x. p x ≡ true) x xs all) (ap (λ l. x ∷ l) (filter_all xs (All-tail (λ x. p x ≡ true) x xs all)))

  pub filter_none : (xs : List X) → All (λ x. p x ≡ false) xs → filter p xs ≡ []
  filter_none [] all = refl
  filter_none (x ∷ xs) all =
      rw (All-head (λ x. p x ≡ false) x xs all) (filter_none xs (All-tail (λ x. p x ≡ false) x xs all))

  -- a test that none passes is failed by each
  pub none_all : (xs : List X) → list_any p xs ≡ false → All (λ x. p x ≡ false) xs
  none_all [] none = All-nil (λ x. p x ≡ false)
  none_all (x ∷ xs) none =
      let parts = or_parts (p x) (list_any p xs) none in All-cons (λ x. p x ≡ false) x xs parts.0 (none_all xs parts.1)

-- ---- what passes a filter, of lists one after the other

pub flat_none : {X A : Type 0} (p : A → Bool) (f : X → List A) (xs : List X)
    → ((k : ℕ) (x : X) → slice_get xs k ≡ Some x → filter p (f x) ≡ [])
    → filter p (flat_map f xs) ≡ []
flat_none p f [] all = refl
flat_none p f (x ∷ xs) all =
    filter-append p (f x) (flat_map f xs) ∙ (λ i. all 0 x refl i ++ flat_none p f xs (λ k. all (suc k)) i)

-- where that of one alone passes
pub flat_one : {X A : Type 0} (p : A → Bool) (f : X → List A) (xs : List X) (k : ℕ) (x : X) → slice_get xs k ≡ Some x
    → ((j : ℕ) (y : X) → j ≢ k → slice_get xs j ≡ Some y → filter p (f y) ≡ [])
    → filter p (flat_map f xs) ≡ filter p (f x)
flat_one p f [] k x at others = absurd (cc)
flat_one {X} p f (y ∷ xs) zero x at others =
    let same : y ≡ x = some_same y x at in
    filter-append p (f y) (flat_map f xs)
    ∙ ap (λ l. filter p (f y) ++ l)
    (flat_none p f xs (λ k z at_z. others (suc k) z (λ e. absurd (omega (arith, e))) at_z))
    ∙ append-nil (filter p (f y))
    ∙ ap (λ (z : X). filter p (f z)) same
flat_one p f (y ∷ xs) (suc k) x at others =
    filter-append p (f y) (flat_map f xs)
    ∙ (λ i. others 0 y (λ e. absurd (omega (arith, e))) refl i ++ flat_one p f xs k x at
    (λ j z differs at_z. others (suc j) z (λ e. differs (omega (arith, e))) at_z) i)

pub flat_push : {X A : Type 0} (f : X → List A) (xs : List X) (x : X) → flat_map f (xs ++ x ∷ []) ≡ flat_map f xs ++ f x
flat_push f [] x = append-nil (f x)
flat_push f (y ∷ xs) x = ap (λ l. f y ++ l) (flat_push f xs x) ∙ sym (append_assoc (f y) (flat_map f xs) (f x))

-- ---- numbers that follow each other

-- what holds of each number of a range holds in each place
pub range_all : (P : ℕ → Type 0) (a n : ℕ) → ((m : ℕ) → a ≤ m → m < a + n → P m) → All P (range_with_len a n)
range_all P a n h k d lt = search (arith, length-range_with_len, get_or-range_with_len)

-- what holds of the first so many numbers from 1 on, and of the others, holds of each
pub each_number : (P : ℕ → Type 0) (count : ℕ) → ((u : ℕ) → (u < 1) ⊎ (count < u) → P u)
    → ((k : ℕ) → k < count → P (k + 1)) → (u : ℕ) → P u
each_number P count others each zero = others zero (inl (omega arith))
each_number P count others each (suc k) =
    ⊎_elim (λ (past : count < suc k). others (suc k) (inr past))
    (λ (within : suc k ≤ count). let number : k + 1 ≡ suc k = omega arith in rw number at
    (each k (omega (arith, within)))) (cases_lt count (suc k))

-- ---- what a change leaves of an element

module _ {A B : Type 0} (f : A → A) (g : A → B) (left : (x : A) → g (f x) ≡ g x) where
  pub map-changed : (xs : List A) → map g (map f xs) ≡ map g xs
  map-changed [] = refl
  map-changed (x ∷ xs) = λ i. left x i ∷ map-changed xs i

  -- lists that are alike once each element is changed
  pub map-alike : (xs ys : List A) → map f xs ≡ map f ys → map g xs ≡ map g ys
  map-alike xs ys alike = sym (map-changed xs) ∙ ap (map g) alike ∙ map-changed ys

-- what stands at the same place of the first list
pub partner : {A B : Type 0} (P : A → B → Type 0) (xs : List A) (ys : List B) → Pairwise P xs ys → (k : ℕ) (y : B)
    → slice_get ys k ≡ Some y
    → (x : A) × (slice_get xs k ≡ Some x) × P x y
partner P xs ys all k y at =
    let (x, there) = got xs k (omega (arith, slice_get_within ys k y at, all.as_many)) in
    (x, there, all.each k x y there at)

-- of pieces with rising numbers each is there
pub has_number : {A : Type 0} (number : A → ℕ) (xs : List A)
    → ((k : ℕ) (x : A) → slice_get xs k ≡ Some x → number x ≡ k + 1)
    → (n : ℕ) → 1 ≤ n → n ≤ length xs → list_any (λ x. number x == n) xs ≡ true
has_number number xs numbers n low high =
    let (x, at) = got xs (n - 1) (omega (arith, low, high)) in
    any_at (λ y. number y == n) xs (n - 1) x at (eq-eqb (number x) n (omega (arith, numbers (n - 1) x at, low)))

pub slice_get-push_last : {A : Type 0} (xs : List A) (x : A) → slice_get (xs ++ x ∷ []) (length xs) ≡ Some x
slice_get-push_last [] x = refl
slice_get-push_last (y ∷ ys) x = slice_get-push_last ys x

pub slice_get-push_other : {A : Type 0} (xs : List A) (x : A) (j : ℕ) → j ≢ length xs
    → slice_get (xs ++ x ∷ []) j ≡ slice_get xs j
slice_get-push_other [] x j differs = grind arith
slice_get-push_other (y ∷ ys) x j differs = grind (arith, slice_get-push_other ys x (j - 1))

pub pairs_mid : {X : Type 0} (R : X → X → Type 0) (xs : List X) (x : X) (ys : List X) → AllPairs R (xs ++ x ∷ ys)
    → All (R x) ys
pairs_mid R [] x ys h = λ k d below. h 0 (suc k) d (omega arith) (omega arith)
pairs_mid R (y ∷ xs) x ys h = pairs_mid R xs x ys (λ i j d lt below. h (suc i) (suc j) d (omega arith) (omega arith))

pub pairs_append : {X : Type 0} (R : X → X → Type 0) (xs ys : List X) → AllPairs R xs → AllPairs R ys
    → All (λ x. All (R x) ys) xs → AllPairs R (xs ++ ys)
pairs_append R [] ys a b c = b
pairs_append R (x ∷ xs) ys a b c =
    AllPairs-cons R x (xs ++ ys) (All-append (R x) xs ys (pairs_mid R [] x xs a) (c 0 x (omega arith)))
    (pairs_append R xs ys (λ i k d lt below. a (suc i) (suc k) d (omega (arith, lt)) (omega (arith, below))) b
    (λ k d below. c (suc k) d (omega (arith, below))))

-- what is left after k elements begins with element k
pub next_left : {X : Type 0} (xs ys : List X) (k : ℕ) (x : X) → drop k xs ≡ x ∷ ys
    → (slice_get xs k ≡ Some x) × (drop (k + 1) xs ≡ ys)
next_left [] ys zero x e = cc
next_left [] ys (suc k) x e = cc
next_left (z ∷ zs) ys zero x e = let f : z ≡ x = cc in let g : zs ≡ ys = cc in (ap Some f, g)
next_left (z ∷ zs) ys (suc k) x e = search (arith, next_left zs ys k x e)

-- the first, one more, and the others
pub parted_at : {X : Type 0} (xs : List X) (i : ℕ) (x : X) → i < length xs → x ≡ slice_index_or xs i x
    → xs ≡ take i xs ++ x ∷ drop (i + 1) xs
parted_at xs i x below is =
    sym (take-append-drop (i + 1) xs) ∙ ap (λ l. l ++ drop (i + 1) xs) (one_more xs i x below is)
    ∙ append_assoc (take i xs) (x ∷ []) (drop (i + 1) xs)

-- what is left, and its first
pub at_drop : {X : Type 0} (xs : List X) (i : ℕ) (x : X) → i < length xs → x ≡ slice_index_or xs i x
    → drop i xs ≡ x ∷ drop (i + 1) xs
at_drop xs i x below is = grind (arith, drop-cons)

pub any_alike : {A : Type 0} (p q : A → Bool) → ((x : A) → p x ≡ q x) → (xs : List A) → list_any p xs ≡ list_any q xs
any_alike p q alike [] = refl
any_alike p q alike (x ∷ xs) = λ i. alike x i || any_alike p q alike xs i

-- what holds of all and of one more
pub pushed_all : {X : Type 0} (P : X → Type 0) (xs ys : List X) (x : X) → ys ≡ xs ++ x ∷ [] → All P xs → P x → All P ys
pushed_all P xs ys x is all one = rw is (All-push P xs x all one)
