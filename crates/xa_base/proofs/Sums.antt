-- Lemmas on sums over lists.
use Rattle.std.specs.Prelude.{◌≡◌, ℤ, pos, ◌+ℤ◌, zero, suc, List, [], ◌∷◌, refl, if◌then◌else◌}
use Rattle.std.specs.List.{All, range_with_len}
use Rattle.std.proofs.Common.{sym, ap, ◌∙◌, arith, ℕ, ◌+◌, ◌<◌, ◌≤◌, ◌==◌, ◌++◌, inl, inr}
use Rattle.std.proofs.lemmas.Bool.{cases_eq, eq-eqb, ne_eqb}
use Rattle.std.proofs.Math.IntN.{+ℤ_idl as none_plus, +ℤ_idr as plus_none}
use Rattle.std.proofs.lemmas.Int.{ints}
use Rattle.xa_base.specs.{total}

-- the elements count alike
pub total_same : {A : Type 0} (f g : A → ℤ) (xs : List A) → ((x : A) → f x ≡ g x) → total f xs ≡ total g xs
total_same f g [] h = refl
total_same f g (x ∷ xs) h = λ i. h x i +ℤ total_same f g xs h i

pub total_alike : {A : Type 0} (f g : A → ℤ) (xs : List A) → All (λ x. f x ≡ g x) xs → total f xs ≡ total g xs
total_alike f g [] h = refl
total_alike f g (x ∷ xs) h = λ i. h 0 x (omega arith) i +ℤ total_alike f g xs (λ k d lt. h (suc k) d (omega arith)) i

-- they count for nothing
pub total_nothing : {A : Type 0} (xs : List A) → total (λ (x : A). pos 0) xs ≡ pos 0
total_nothing [] = refl
total_nothing (x ∷ xs) = ap (λ s. pos 0 +ℤ s) (total_nothing xs)

regroup : (a b s t u : ℤ) → u ≡ s +ℤ t → (a +ℤ b) +ℤ u ≡ (a +ℤ s) +ℤ (b +ℤ t)
regroup a b s t u h = omega (arith, ints)

-- each counts for two things
pub total_both : {A : Type 0} (f g : A → ℤ) (xs : List A) → total (λ x. f x +ℤ g x) xs ≡ total f xs +ℤ total g xs
total_both f g [] = refl
total_both f g (x ∷ xs) = regroup (f x) (g x) (total f xs) (total g xs) (total (λ y. f y +ℤ g y) xs) (total_both f g xs)

-- a table may be summed by rows or by columns
pub total_across : {A B : Type 0} (f : A → B → ℤ) (xs : List A) (ys : List B)
    → total (λ x. total (f x) ys) xs ≡ total (λ y. total (λ x. f x y) xs) ys
total_across f [] ys = sym (total_nothing ys)
total_across f (x ∷ xs) ys =
    ap (λ s. total (f x) ys +ℤ s) (total_across f xs ys) ∙ sym (total_both (f x) (λ y. total (λ z. f z y) xs) ys)

-- of one list after the other
brackets : (a b c u : ℤ) → u ≡ b +ℤ c → a +ℤ u ≡ (a +ℤ b) +ℤ c
brackets a b c u h = omega (arith, ints)

pub total_append : {A : Type 0} (f : A → ℤ) (xs ys : List A) → total f (xs ++ ys) ≡ total f xs +ℤ total f ys
total_append f [] ys = sym (none_plus (total f ys))
total_append f (x ∷ xs) ys = brackets (f x) (total f xs) (total f ys) (total f (xs ++ ys)) (total_append f xs ys)

-- of numbers that follow each other one counts, where it is among them
none_counted : (k : ℕ) (v : ℤ) (a n : ℕ) → k < a → total (λ t. if k == t then v else pos 0) (range_with_len a n) ≡ pos 0
none_counted k v a zero lt = refl
none_counted k v a (suc n) lt = search (arith, none_counted k v (a + 1) n (omega arith), ne_eqb)

pub one_counted : (k : ℕ) (v : ℤ) (a n : ℕ) → a ≤ k → k < a + n
    → total (λ t. if k == t then v else pos 0) (range_with_len a n) ≡ v
one_counted k v a zero from below = absurd (omega arith)
one_counted k v a (suc n) from below = elim (cases_eq k a) [
  | inl same ↦ rw (eq-eqb k a same) (ap (λ s. v +ℤ s) (none_counted k v (a + 1) n (omega (arith, same))) ∙ plus_none v)
  | inr apart ↦ rw (ne_eqb k a apart) (none_plus _ ∙ one_counted k v (a + 1) n (omega (arith, apart)) (omega arith))
]
