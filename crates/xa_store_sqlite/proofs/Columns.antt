-- Rows by their columns.
use Rattle.xa_base.proofs.{◌≡◌, ℕ, ℤ, List, [], ◌∷◌, length, suc, ap, ◌∙◌, arith, Ok}
use Rattle.sqlite_value.specs.declared.value.Value.{Value}
use Rattle.sqlite_value.specs.Order.{Row, column}
use Rattle.xa_words.specs.{XidName, xid_of}

-- a row of five values is these five
pub five : (row : Row) (a b c d e : Value) → length row ≡ 5 → column row 0 ≡ a → column row 1 ≡ b → column row 2 ≡ c
    → column row 3 ≡ d → column row 4 ≡ e
    → row ≡ a ∷ b ∷ c ∷ d ∷ e ∷ []
five [] a b c d e n = let z : 0 ≡ 5 = n in absurd (omega (arith, z))
five (u ∷ []) a b c d e n = let z : 1 ≡ 5 = n in absurd (omega (arith, z))
five (u ∷ v ∷ []) a b c d e n = let z : 2 ≡ 5 = n in absurd (omega (arith, z))
five (u ∷ v ∷ w ∷ []) a b c d e n = let z : 3 ≡ 5 = n in absurd (omega (arith, z))
five (u ∷ v ∷ w ∷ x ∷ []) a b c d e n = let z : 4 ≡ 5 = n in absurd (omega (arith, z))
five (u ∷ v ∷ w ∷ x ∷ y ∷ []) a b c d e n = λ p q r s t.
    ap (λ h. h ∷ v ∷ w ∷ x ∷ y ∷ []) p ∙ ap (λ h. a ∷ h ∷ w ∷ x ∷ y ∷ []) q ∙ ap (λ h. a ∷ b ∷ h ∷ x ∷ y ∷ []) r
    ∙ ap (λ h. a ∷ b ∷ c ∷ h ∷ y ∷ []) s ∙ ap (λ h. a ∷ b ∷ c ∷ d ∷ h ∷ []) t
five (u ∷ v ∷ w ∷ x ∷ y ∷ z ∷ more) a b c d e n =
    let no : suc (suc (suc (suc (suc (suc (length more)))))) ≡ 5 = n in absurd (omega (arith, no))

pub three : (row : Row) (a b c : Value) → length row ≡ 3 → column row 0 ≡ a → column row 1 ≡ b → column row 2 ≡ c
    → row ≡ a ∷ b ∷ c ∷ []
three [] a b c n = let z : 0 ≡ 3 = n in absurd (omega (arith, z))
three (u ∷ []) a b c n = let z : 1 ≡ 3 = n in absurd (omega (arith, z))
three (u ∷ v ∷ []) a b c n = let z : 2 ≡ 3 = n in absurd (omega (arith, z))
three (u ∷ v ∷ w ∷ []) a b c n =
    λ p q r. ap (λ h. h ∷ v ∷ w ∷ []) p ∙ ap (λ h. a ∷ h ∷ w ∷ []) q ∙ ap (λ h. a ∷ b ∷ h ∷ []) r
three (u ∷ v ∷ w ∷ x ∷ more) a b c n =
    let no : suc (suc (suc (suc (length more)))) ≡ 3 = n in absurd (omega (arith, no))

-- a name has the parts that it was made of
pub named : (format : ℤ) (gtrid bqual : List ℕ) (x : XidName) → xid_of format gtrid bqual ≡ Ok x
    → x ≡ record { format = format; gtrid = gtrid; bqual = bqual }
named format gtrid bqual x is = grind arith
