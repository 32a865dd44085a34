-- A store that owes nothing leaves what a reopening finds.
use Rattle.xa_base.proofs.{◌≡◌, ℕ, Bool, true, false, not, ◌||◌, nat_eq, List, [], ◌∷◌, length, suc, refl, ◌∙◌, arith}
use Rattle.xa_base.proofs.{nat_tests}
use Rattle.sqlite_trees.specs.Tree.{Trees}
use Rattle.sqlite_trees.specs.View.{View}
use Rattle.xa_words.specs.{XidName}
use Rattle.xa_tables.specs.{Tables, IsStoreOf}
use Rattle.xa_tables.proofs.Restoring.{restores}
use Rattle.xa_store.specs.{AreDurable}
use Rattle.xa_store_sqlite.specs.{HasAllBut, Image, IsSettledImage, KnowsAllBut, LeavesTables, stored_of}
use Rattle.xa_store_sqlite.proofs.Readback.{same_tables}

pub whole : (image : Image) (T : Tables) → HasAllBut [] false image T → IsStoreOf (stored_of image) T
whole image T h =
    record { values = h.values refl; states = λ x. (h.branches x refl).state; sums = λ x k. (h.branches x refl).sums k }

pub durable : (view : View) (recovers : Trees → Type 0) (image : Image) (T : Tables)
    → IsSettledImage view recovers image
    → HasAllBut [] false image T
    → AreDurable (LeavesTables view recovers) T
durable view recovers image T s h K l =
    l.is ∙ same_tables l.image image l.trees l.has (s.kept l.clean l.trees l.left)
    ∙ restores (stored_of image) T (whole image T h)

module _ (view : View) (recovers : Trees → Type 0) (image : Image) (slots : List (XidName × ℕ))
    (places : List (List ℕ × ℕ)) (T : Tables) where
  pub durable_now : KnowsAllBut [] false view recovers image slots places T → AreDurable (LeavesTables view recovers) T
  durable_now k = durable view recovers image T k.settled k.has

  pub owes_nothing : (failed moved : Bool) (told : List XidName)
      → (failed || (moved || not (nat_eq (length told) 0))) ≡ false
      → (failed ≡ false → KnowsAllBut told moved view recovers image slots places T)
      → AreDurable (LeavesTables view recovers) T
  owes_nothing true moved told none knows = let z : true ≡ false = none in cc
  owes_nothing false true told none knows = let z : true ≡ false = none in cc
  owes_nothing false false (x ∷ told) none knows =
      let z : not (nat_eq (suc (length told)) 0) ≡ false = none in absurd (grind (arith, nat_tests, z))
  owes_nothing false false [] none knows = durable_now (knows refl)
