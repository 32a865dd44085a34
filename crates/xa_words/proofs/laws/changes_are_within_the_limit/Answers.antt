use Rattle.xa_base.proofs.{◌≡◌, ℤ, Bool, true, false, refl, pos, neg_ℤ, ◌≤ℤ◌, Decides, le_z_yes}
use Rattle.std.specs.Prelude.{int_le}
use Rattle.std.proofs.Math.Dec.{T}
use Rattle.std.proofs.lemmas.Float.{T_from_true}
use Rattle.std.proofs.lemmas.Bool.Decides.{Decides-and}
use Rattle.xa_words.proofs.laws.changes_are_within_the_limit.Goals as goal

-- a test that passed is true
true_from_T : (b : Bool) → T b → b ≡ true
true_from_T true t = refl
true_from_T false t = absurd t

-- the test of numbers says how they are ordered
Decides-int_le : (a b : ℤ) → Decides (int_le a b) (a ≤ℤ b)
Decides-int_le a b = (λ t. le_z_yes (T_from_true (int_le a b) t), λ h. true_from_T (int_le a b) h.le)

pub returns : goal.returns
returns c z = Decides-and _ _ (Decides-int_le (neg_ℤ (pos 1000000000000)) z) (Decides-int_le z (pos 1000000000000))
