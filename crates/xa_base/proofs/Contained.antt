-- Elements of lists: where they stand, what maps and searches make of them, and what is taken out.
use Rattle.std.proofs.Common.{◌≡◌, ℕ, zero, suc, ◌<◌, ◌⊎◌, ⊎_elim, inr, Bool, true, false, cond, List, [], ◌∷◌, length}
use Rattle.std.proofs.Common.{map, take, remove, Option, Some, None, sym, refl, ap, ◌∙◌, subst, arith, get_or}
use Rattle.std.specs.Prelude.{slice_get, option_map}
use Rattle.std.specs.List.{All, AllPairs, Contains, find, flat_map, list_any}
use Rattle.std.proofs.lemmas.List.{length-map, get_or-map}
use Rattle.std.proofs.lemmas.List.Elements.{All-contains, All-head, All-map, All-tail, Contains-get_or}
use Rattle.std.proofs.lemmas.List.Elements.{Contains-append_cases, Contains-append_left, Contains-append_right}
use Rattle.std.proofs.lemmas.Option.{slice_get-get_or, slice_get-map}
use Rattle.xa_base.specs.{Begins}
use Rattle.xa_base.proofs.Lists.{contains_at, none_all, was_mapped}

pub get_contained : {X : Type 0} (xs : List X) (x : X) (c : Contains xs x) → slice_get xs c.0 ≡ Some x
get_contained xs x c = slice_get-get_or xs c.0 x c.1 ∙ ap Some c.2

pub in_map : {X Y : Type 0} (f : X → Y) (y : Y) (xs : List X) → Contains (map f xs) y
    → (x : X) × Contains xs x × (f x ≡ y)
in_map f y xs c = let w = was_mapped f xs c.0 y (get_contained (map f xs) y c) in (w.0, contains_at xs c.0 w.0 w.1, w.2)

pub contains_map : {X Y : Type 0} (f : X → Y) (xs : List X) (x : X) → Contains xs x → Contains (map f xs) (f x)
contains_map f xs x c =
    contains_at (map f xs) c.0 (f x) (slice_get-map f xs c.0 ∙ ap (option_map f) (get_contained xs x c))

pub all_map : {X Y : Type 0} (f : X → Y) (P : Y → Type 0) (xs : List X) → ((x : X) → Contains xs x → P (f x))
    → All P (map f xs)
all_map f P xs h = All-map P f xs (λ k d lt. h (get_or xs k d) (Contains-get_or xs k d lt))

-- a relation of each two elements, of what a function makes of them
pub pairs_map : {X Y : Type 0} (f : X → Y) (R : Y → Y → Type 0) (xs : List X) → AllPairs (λ a b. R (f a) (f b)) xs
    → AllPairs R (map f xs)
pairs_map f R [] h i k d lt below = absurd (omega arith)
pairs_map {Y = Y} f R (x ∷ xs) h i k d lt below =
    let n = length-map (x ∷ xs) f in
    let kb : k < length (x ∷ xs) = omega arith in
    let ib : i < length (x ∷ xs) = omega arith in
    subst (λ (p : Y × Y). R p.0 p.1)
    (λ j. (sym (get_or-map f (x ∷ xs) i x d ib) j, sym (get_or-map f (x ∷ xs) k x d kb) j)) (h i k x lt kb)

pub pairs_at : {X Y : Type 0} (f : X → Y) (R : Y → Y → Type 0) (xs : List X) → AllPairs R (map f xs)
    → AllPairs (λ a b. R (f a) (f b)) xs
pairs_at {Y = Y} f R xs h i k d lt below =
    let n = length-map xs f in
    subst (λ (p : Y × Y). R p.0 p.1)
    (λ j. (get_or-map f xs i d (f d) (omega arith) j, get_or-map f xs k d (f d) below j))
    (h i k (f d) lt (omega arith))

pub contains_after : {X : Type 0} (x y : X) (xs : List X) → Contains xs y → Contains (x ∷ xs) y
contains_after x y xs c = let lt = c.1 in (suc c.0, omega arith, c.2)

-- what a search finds is an element that passes
pub found : {X : Type 0} (p : X → Bool) (xs : List X) (y : X) → find p xs ≡ Some y → Contains xs y × (p y ≡ true)
found p [] y e = cc
found {X} p (x ∷ xs) y e =
    elim (p x) as (λ b. p x ≡ b → cond b (Some x) (find p xs) ≡ Some y → Contains (x ∷ xs) y × (p y ≡ true)) [
      | true ↦ λ is f. let g : x ≡ y = cc in ((0, omega arith, g), rw g at is)
      | false ↦ λ is f. let r = found p xs y f in (contains_after x y xs r.0, r.1)
    ] refl e

-- a search of a mapped list, whose test is of what the map keeps: it finds what f gives of an element that passes, or
-- none does
abbrev pub SearchedAs : {X Y : Type 0} → (X → Y) → (Y → Bool) → List X → Option Y → Bool → Type 0
SearchedAs {X} {Y} f p xs o b =
    ((x : X) × Contains xs x × (p (f x) ≡ true) × (o ≡ Some (f x))) ⊎ ((o ≡ None) × (b ≡ false))

pub searched : {X Y : Type 0} (f : X → Y) (p : Y → Bool) (xs : List X)
    → SearchedAs f p xs (find p (map f xs)) (list_any (λ y. p (f y)) xs)
searched f p [] = inr (refl, refl)
searched {X} {Y} f p (x ∷ xs) = search (arith, searched f p xs, list_any, contains_after)

-- a test that none passes is failed by each
pub fails_each : {X : Type 0} (p : X → Bool) (xs : List X) (x : X) → Contains xs x → list_any p xs ≡ false → p x ≡ false
fails_each p xs x c none = All-contains (λ y. p y ≡ false) xs x (none_all p xs none) c

-- ---- elements that are taken out of a list

-- the element at a place is found, where none before it passes
pub found_at : {A : Type 0} (p : A → Bool) (xs : List A) (i : ℕ) (d : A) → i < length xs → p (get_or xs i d) ≡ true
    → All (λ x. p x ≡ false) (take i xs)
    → find p xs ≡ Some (get_or xs i d)
found_at p [] i d low here before = absurd (omega (arith, low))
found_at p (x ∷ xs) zero d low here before = ap (λ b. cond b (Some x) (find p xs)) here
found_at p (x ∷ xs) (suc i) d low here before =
    search (
      arith,
      found_at p xs i d (omega (arith, low)) here (All-tail (λ y. p y ≡ false) x (take i xs) before),
      All-head,
      All-tail,
    )

-- taking out one that doesn't pass changes nothing
pub found_without : {A : Type 0} (p : A → Bool) (xs : List A) (i : ℕ) (d : A) → i < length xs
    → p (get_or xs i d) ≡ false → find p (remove xs i) ≡ find p xs
found_without p [] i d low here = absurd (omega (arith, low))
found_without p (x ∷ xs) zero d low here = sym (ap (λ b. cond b (Some x) (find p xs)) here)
found_without p (x ∷ xs) (suc i) d low here =
    ap (cond (p x) (Some x)) (found_without p xs i d (omega (arith, low)) here)

pub contains_flat : {A B : Type 0} (f : A → List B) (xs : List A) (x : A) (k : ℕ) → k < length xs → get_or xs k x ≡ x
    → (y : B) → Contains (f x) y
    → Contains (flat_map f xs) y
contains_flat f [] x k lt e y c = absurd (omega (arith, lt))
contains_flat {A} f (z ∷ xs) x zero lt e y c = Contains-append_left (f z) (flat_map f xs) y (rw e c)
contains_flat f (z ∷ xs) x (suc k) lt e y c =
    Contains-append_right (f z) (flat_map f xs) y (contains_flat f xs x k (omega (arith, lt)) e y c)

-- an element of lists that are put together is in one of them
pub flat_contains : {A B : Type 0} (f : A → List B) (xs : List A) (y : B) → Contains (flat_map f xs) y
    → (x : A) × (Contains xs x × Contains (f x) y)
flat_contains f [] y (k, lt, e) = absurd (omega (arith, lt))
flat_contains f (x ∷ xs) y c =
    ⊎_elim (λ (here : Contains (f x) y). (x, ((zero, omega arith, refl), here)))
    (λ (later : Contains (flat_map f xs) y). let z = flat_contains f xs y later in
    (z.0, (Contains-append_right (x ∷ []) xs z.0 z.1.0, z.1.1)))
    (Contains-append_cases (f x) (flat_map f xs) y c)

-- what a list has one that has grown has too
pub contains_on : {A : Type 0} (xs ys : List A) (x : A) → Begins xs ys → Contains xs x → Contains ys x
contains_on {A} xs ys x b there = rw b.1 (Contains-append_left xs b.0 x there)

pub none_there : {A : Type 0} (x : A) → Contains [] x → ⊥
none_there x (k, lt, e) = absurd (omega (arith, lt))
