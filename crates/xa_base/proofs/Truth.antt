-- Lemmas of choices by a truth value, and of numbers that are compared.
use Rattle.std.proofs.Common.{◌≡◌, ◌≢◌, ℕ, Bool, true, false, Ordering, Less, Equal, Greater, is_eq, sym, refl, ◌∙◌}
use Rattle.std.specs.Prelude.{if◌then◌else◌}
use Rattle.std.specs.Ordering.{nat_cmp, eq_by_cmp}
use Rattle.std.specs.Cmp.{unsigned_tied}
use Rattle.std.proofs.lemmas.Bool.{false_from_ne_true, eqb-true, eq-eqb}
pub use Rattle.std.proofs.lemmas.Bool.{cond-true as at_true, cond-false as at_false}

-- what holds of both branches holds of the choice
pub by_if : {A : Type 0} (P : A → Type 0) (b : Bool) (p q : A) → (b ≡ true → P p) → (b ≡ false → P q)
    → P (if b then p else q)
by_if P b p q one two = elim b as (λ c. b ≡ c → P (if c then p else q)) [ true ↦ one | false ↦ two ] refl

-- what holds where the value is true, and where it is false
pub by_bool : (P : Bool → Type 0) (b : Bool) → (b ≡ true → P true) → (b ≡ false → P false) → P b
by_bool P b one two = elim b as (λ c. b ≡ c → P c) [ true ↦ one | false ↦ two ] refl

pub tied_true : (a b : ℕ) → a ≡ b → eq_by_cmp nat_cmp a b ≡ true
tied_true a b same = unsigned_tied a b ∙ eq-eqb a b same

pub tied_false : (a b : ℕ) → a ≢ b → eq_by_cmp nat_cmp a b ≡ false
tied_false a b differs =
    false_from_ne_true (eq_by_cmp nat_cmp a b) (λ e. differs (eqb-true a b (sym (unsigned_tied a b) ∙ e)))

-- values that an order doesn't tell apart
pub is_equal : (r : Ordering) → is_eq r ≡ true → r ≡ Equal
is_equal Less e = cc
is_equal Equal e = refl
is_equal Greater e = cc
