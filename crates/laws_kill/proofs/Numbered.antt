-- Lists whose elements are numbered one after another, what is found in them, and searches in general.
use Rattle.xa_base.proofs.{◌≡◌, ℕ, zero, suc, ◌+◌, ◌<◌, Bool, cond, ◌==◌, List, [], ◌∷◌, ◌++◌, Option, Some, None}
use Rattle.xa_base.proofs.{option_map, map, slice_get, range_with_len, refl, ap, ◌∙◌, add-one, arith, by_bool, ne_eqb}
use Rattle.xa_base.proofs.{eq-eqb, some_same}
use Rattle.std.specs.List.{find}

-- each choice of an option, with how it was
pub by_option : {A : Type 0} (P : Option A → Type 0) (o : Option A) → (o ≡ None → P None)
    → ((x : A) → o ≡ Some x → P (Some x)) → P o
by_option P o none some = elim o as (λ q. o ≡ q → P q) [ None ↦ none | Some x ↦ some x ] refl

-- the elements are numbered from k on
abbrev pub AreNumberedFrom : {A : Type 0} → (A → ℕ) → ℕ → List A → Type 0
AreNumberedFrom n k [] = Unit {0}
AreNumberedFrom n k (x ∷ xs) = (n x ≡ k) × AreNumberedFrom n (suc k) xs

module _ {A : Type 0} (n : A → ℕ) where
  pub from_range : (k j : ℕ) (xs : List A) → map n xs ≡ range_with_len k j → AreNumberedFrom n k xs
  from_range k j [] e = tt
  from_range k zero (x ∷ xs) e = absurd (cc)
  from_range k (suc j) (x ∷ xs) e =
      let next : k + 1 ≡ suc k = add-one k in (
        heads (map n xs) (n x) e,
        from_range (suc k) j xs (tails (map n xs) (n x) e ∙ ap (λ i. range_with_len i j) next),
      )
    where
      heads : (ys : List ℕ) (y : ℕ) → ◌≡◌ {A = List ℕ} (y ∷ ys) (k ∷ range_with_len (k + 1) j) → y ≡ k
      heads ys y e = cc

      tails : (ys : List ℕ) (y : ℕ) → ◌≡◌ {A = List ℕ} (y ∷ ys) (k ∷ range_with_len (k + 1) j)
          → ys ≡ range_with_len (k + 1) j
      tails ys y e = cc

  pub number_at : (k j : ℕ) (xs : List A) (x : A) → AreNumberedFrom n k xs → slice_get xs j ≡ Some x → n x ≡ k + j
  number_at k j [] x from at = absurd (cc)
  number_at k zero (y ∷ xs) x from at =
      let same : y ≡ x = some_same y x at in
      let first = from.0 in
      let own : n y ≡ n x = ap n same in
      omega (arith, first, own)
  number_at k (suc j) (y ∷ xs) x from at = let rest = number_at (suc k) j xs x from.1 at in omega (arith, rest)

  -- none is numbered below k
  pub find_below : (t k : ℕ) (xs : List A) → AreNumberedFrom n k xs → t < k → find (λ y. n y == t) xs ≡ None
  find_below t k [] from below = refl
  find_below t k (x ∷ xs) from below =
      let first = from.0 in
      ap (λ b. cond b (Some x) (find (λ y. n y == t) xs)) (ne_eqb (n x) t (λ e. omega (arith, e, first, below)))
      ∙ find_below t (suc k) xs from.1 (omega (arith, below))

  -- that with number k + j stands at place j
  pub find_from : (t k j : ℕ) (xs : List A) → AreNumberedFrom n k xs → t ≡ k + j
      → find (λ y. n y == t) xs ≡ slice_get xs j
  find_from t k j [] from is = refl
  find_from t k zero (x ∷ xs) from is =
      let first = from.0 in
      ap (λ b. cond b (Some x) (find (λ y. n y == t) xs)) (eq-eqb (n x) t (omega (arith, is, first)))
  find_from t k (suc j) (x ∷ xs) from is =
      let first = from.0 in
      ap (λ b. cond b (Some x) (find (λ y. n y == t) xs)) (ne_eqb (n x) t (λ e. omega (arith, e, first, is)))
      ∙ find_from t (suc k) j xs from.1 (omega (arith, is))

-- ---- searches

-- a search by a number that a change keeps
pub find_changed : {A B : Type 0} (f : A → B) (n : A → ℕ) (m : B → ℕ) → ((x : A) → m (f x) ≡ n x) → (t : ℕ)
    (xs : List A) → find (λ y. m y == t) (map f xs) ≡ option_map f (find (λ x. n x == t) xs)
find_changed f n m kept t [] = refl
find_changed {A} {B} f n m kept t (x ∷ xs) =
    ap (λ k. cond (k == t) (Some (f x)) (find (λ y. m y == t) (map f xs))) (kept x)
    ∙ by_bool
    (λ b. cond b (Some (f x)) (find (λ y. m y == t) (map f xs))
    ≡ option_map f (cond b (Some x) (find (λ y. n y == t) xs)))
    (n x == t) (λ _. refl) (λ _. find_changed f n m kept t xs)

-- a search of two lists, one after the other
pub find_first : {A : Type 0} (p : A → Bool) (xs ys : List A) (x : A) → find p xs ≡ Some x
    → find p (xs ++ ys) ≡ Some x
find_first p [] ys x e = absurd (cc)
find_first {A} p (y ∷ xs) ys x e =
    by_bool (λ b. cond b (Some y) (find p xs) ≡ Some x → cond b (Some y) (find p (xs ++ ys)) ≡ Some x)
    (p y) (λ _ at. at) (λ _ at. find_first p xs ys x at) e

pub find_second : {A : Type 0} (p : A → Bool) (xs ys : List A) → find p xs ≡ None
    → find p (xs ++ ys) ≡ find p ys
find_second p [] ys e = refl
find_second {A} p (y ∷ xs) ys e =
    by_bool (λ b. cond b (Some y) (find p xs) ≡ None → cond b (Some y) (find p (xs ++ ys)) ≡ find p ys)
    (p y) (λ _ at. absurd (cc)) (λ _ at. find_second p xs ys at) e
