-- A write of a slot is one of the image.
use Rattle.xa_base.proofs.{◌<◌, length, subst, ◌≡◌, ℕ, zero, suc, List, [], ◌∷◌, map, slice_set, Option, Some}
use Rattle.xa_base.proofs.{option_map, refl, ap, sym, ◌∙◌, arith}
use Rattle.sqlite_trees.specs.Tree.{Trees}
use Rattle.sqlite_trees.specs.View.{View}
use Rattle.xa_slots.specs.{HasSlots, Knows, Slot, rows_from, with_slot}
use Rattle.xa_store_sqlite.specs.{StoredBranch, Change, Image, account_cells, branch_cells, change_cells, slots_of}
use Rattle.xa_store_sqlite.specs.{with_account, with_branch, with_change}

pub map_slice_set : {A B : Type 0} (f : A → B) (xs : List A) (k : ℕ) (x : A)
    → map f (slice_set xs k x) ≡ slice_set (map f xs) k (f x)
map_slice_set f [] k x = refl
map_slice_set f (y ∷ xs) zero x = refl
map_slice_set f (y ∷ xs) (suc k) x = ap (λ ys. f y ∷ ys) (map_slice_set f xs k x)

pub has_account : (image : Image) (k : ℕ) (a : List ℕ × ℕ) (trees : Trees)
    → HasSlots 4 (with_slot (slots_of image) 0 k (Some (account_cells a))) trees
    → HasSlots 4 (slots_of (with_account image k a)) trees
has_account image k a trees has zero below = has 0 below ∙ ap (rows_from 1) (sym (map_slice_set _ image.accounts k a))
has_account image k a trees has (suc zero) below = has 1 below
has_account image k a trees has (suc (suc zero)) below = has 2 below
has_account image k a trees has (suc (suc (suc zero))) below = has 3 below
has_account image k a trees has (suc (suc (suc (suc t)))) below = absurd (omega (arith, below))

pub has_branch : (image : Image) (k : ℕ) (b : Option StoredBranch) (trees : Trees)
    → HasSlots 4 (with_slot (slots_of image) 1 k (option_map branch_cells b)) trees
    → HasSlots 4 (slots_of (with_branch image k b)) trees
has_branch image k b trees has zero below = has 0 below
has_branch image k b trees has (suc zero) below =
    has 1 below ∙ ap (rows_from 1) (sym (map_slice_set _ image.branches k b))
has_branch image k b trees has (suc (suc zero)) below = has 2 below
has_branch image k b trees has (suc (suc (suc zero))) below = has 3 below
has_branch image k b trees has (suc (suc (suc (suc t)))) below = absurd (omega (arith, below))

pub has_change : (image : Image) (k : ℕ) (c : Option Change) (trees : Trees)
    → HasSlots 4 (with_slot (slots_of image) 2 k (option_map change_cells c)) trees
    → HasSlots 4 (slots_of (with_change image k c)) trees
has_change image k c trees has zero below = has 0 below
has_change image k c trees has (suc zero) below = has 1 below
has_change image k c trees has (suc (suc zero)) below =
    has 2 below ∙ ap (rows_from 1) (sym (map_slice_set _ image.changes k c))
has_change image k c trees has (suc (suc (suc zero))) below = has 3 below
has_change image k c trees has (suc (suc (suc (suc t)))) below = absurd (omega (arith, below))

-- ---- as the store sees it

pub among : {A B : Type 0} (f : A → B) (xs : List A) (k : ℕ) → k < length xs → k < length (map f xs)
among f [] k below = below
among f (x ∷ xs) zero below = omega arith
among f (x ∷ xs) (suc k) below =
    let less : k < length (map f xs) = among f xs k (omega (arith, below)) in omega (arith, less)

module _ (v : View) (image : Image) (k : ℕ) (slot : Slot) where
  pub knows_account : (a : List ℕ × ℕ) → slot ≡ Some (account_cells a) → Knows 4 v (with_slot (slots_of image) 0 k slot)
      → Knows 4 v (slots_of (with_account image k a))
  knows_account a is knows clean =
      let done = knows clean in (
        done.0,
        has_account image k a v.trees
            (subst (λ (s : Slot). HasSlots 4 (with_slot (slots_of image) 0 k s) v.trees) is done.1),
      )

  pub knows_branch : (b : Option StoredBranch) → slot ≡ option_map branch_cells b
      → Knows 4 v (with_slot (slots_of image) 1 k slot)
      → Knows 4 v (slots_of (with_branch image k b))
  knows_branch b is knows clean =
      let done = knows clean in (
        done.0,
        has_branch image k b v.trees
            (subst (λ (s : Slot). HasSlots 4 (with_slot (slots_of image) 1 k s) v.trees) is done.1),
      )

  pub knows_change : (c : Option Change) → slot ≡ option_map change_cells c
      → Knows 4 v (with_slot (slots_of image) 2 k slot)
      → Knows 4 v (slots_of (with_change image k c))
  knows_change c is knows clean =
      let done = knows clean in (
        done.0,
        has_change image k c v.trees
            (subst (λ (s : Slot). HasSlots 4 (with_slot (slots_of image) 2 k s) v.trees) is done.1),
      )
