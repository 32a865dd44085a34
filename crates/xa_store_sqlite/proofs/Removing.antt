-- A branch is removed with its changes.
use Rattle.xa_base.proofs.{◌≡◌, ℕ, zero, suc, true, false, cond, List, [], ◌∷◌, slice_set, Option, None, Some, is_some}
use Rattle.xa_base.proofs.{lookup, refl, ap, sym, ◌∙◌, by_bool, ◌==◌, Decides-eqb, is_missing}
use Rattle.xa_tables.proofs.SoundLemmas.{swap_xid}
use Rattle.xa_words.specs.{XidName, xid_eq, Decides-xid_eq}
use Rattle.xa_store_sqlite.specs.{NoBranchTwice, AreSlots, StoredBranch, DiffersAt, Image, IsInOrder, Lacks}
use Rattle.xa_store_sqlite.specs.{is_of_branch, item_at, keys_of_accounts, first_place_from, state_in, sum_in}
use Rattle.xa_store_sqlite.specs.{with_branch, without_changes}
use Rattle.xa_store_sqlite.proofs.Lookups.{found_alike}
use Rattle.xa_store_sqlite.proofs.Branches.{item_other, name_other, named, none_stands, other_at, passes_there}
use Rattle.xa_store_sqlite.proofs.Branches.{place_kept, place_none, stands_none, state_kept}
use Rattle.xa_store_sqlite.proofs.Sums.{left_change, sum_found, sum_is, unnamed}
use Rattle.xa_store_sqlite.proofs.Sums as sums

-- a slot that is left free has no branch
none_at : {A : Type 0} (xs : List (Option A)) (k : ℕ) → item_at (slice_set xs k None) k ≡ None
none_at [] k = refl
none_at (x ∷ xs) zero = refl
none_at (x ∷ xs) (suc k) = none_at xs k

-- two numbers are one, or not
pub by_same : (j k : ℕ) {P : Type 0} → (j ≡ k → P) → ((j ≡ k → ⊥) → P) → P
by_same j k {P} one other =
    by_bool (λ _. P) (j == k) (λ t. one ((Decides-eqb j k).0 t))
    (λ f. other (λ e. let z : false ≡ true = sym f ∙ (Decides-eqb j k).1 e in cc))

module _ (image : Image) (slot : ℕ) (x : XidName) (at : is_of_branch x (item_at image.branches slot) ≡ true)
    (apart : NoBranchTwice image.branches) where
  abbrev bs : List (Option StoredBranch)
  bs = image.branches

  abbrev removed : Image
  removed = with_branch (without_changes image slot) slot None

  -- x stands nowhere any more
  nowhere : (k : ℕ) → is_of_branch x (item_at (slice_set bs slot None) k) ≡ false
  nowhere k =
      by_same k slot (λ e. ap (is_of_branch x) (ap (item_at (slice_set bs slot None)) e ∙ none_at bs slot))
      (λ off. by_bool
      (λ b. is_of_branch x (item_at bs k) ≡ b → is_of_branch x (item_at (slice_set bs slot None) k) ≡ false)
      (is_of_branch x (item_at bs k))
      (λ _ on. absurd (off (apart k slot x on at)))
      (λ _ none. ap (is_of_branch x) (item_other bs slot k None off) ∙ none) refl)

  other_state : (y : XidName) → xid_eq y x ≡ false → state_in removed y ≡ state_in image y
  other_state y off = state_kept bs slot None y (other_at bs slot x y at off) refl

  -- the names of the changes that are left are as they were
  same_names : (y : XidName) (k : List ℕ)
      → sum_found (slice_set bs slot None) (keys_of_accounts image.accounts) removed.changes (y, k) ≡ sum_found bs
      (keys_of_accounts image.accounts) removed.changes (y, k)
  same_names y k =
      sums.found_alike (slice_set bs slot None) bs (keys_of_accounts image.accounts) removed.changes (y, k)
      (λ n c is. name_other bs slot c.branch None (left_change slot image.changes n c is).1)

  own_sum : (k : List ℕ) → sum_in removed x k ≡ None
  own_sum k =
      sum_is removed x k ∙ same_names x k
      ∙ unnamed bs (keys_of_accounts image.accounts) removed.changes x k
      (λ n c is name. (left_change slot image.changes n c is).1 (apart c.branch slot x (named bs c.branch x name) at))

  other_sum : (y : XidName) (k : List ℕ) → xid_eq y x ≡ false → sum_in removed y k ≡ sum_in image y k
  other_sum y k off =
      sum_is removed y k ∙ same_names y k
      ∙ sums.found_without bs slot (keys_of_accounts image.accounts) image.changes y k
      (λ name. let z : true ≡ false = sym (named bs slot y name) ∙ other_at bs slot x y at off in cc)
      ∙ sym (sum_is image y k)

  pub lacks_removed : Lacks x removed
  lacks_removed = record { state = stands_none (slice_set bs slot None) x nowhere; sums = own_sum }

  pub differs_removed : DiffersAt x image removed
  differs_removed = record { states = other_state; sums = other_sum; accounts = refl }

  still_there : (k : ℕ) (y : XidName) → is_of_branch y (item_at (slice_set bs slot None) k) ≡ true
      → is_of_branch y (item_at bs k) ≡ true
  still_there k y on =
      by_same k slot
      (λ e. let z : true ≡ false = sym on
      ∙ ap (is_of_branch y) (ap (item_at (slice_set bs slot None)) e ∙ none_at bs slot) in cc)
      (λ off. ap (is_of_branch y) (sym (item_other bs slot k None off)) ∙ on)

  slots_removed : (slots later : List (XidName × ℕ)) → AreSlots slots image
      → ((y : XidName) → lookup (xid_eq y) later ≡ cond (xid_eq x y) None (lookup (xid_eq y) slots))
      → AreSlots later removed
  slots_removed slots later are updates y =
      by_bool
      (λ b. xid_eq x y ≡ b → lookup (xid_eq y) later ≡ first_place_from (is_of_branch y) 0 (slice_set bs slot None))
      (xid_eq x y)
      (λ _ on. updates y ∙ ap (λ b. cond b None (lookup (xid_eq y) slots)) on
      ∙ sym
      (place_none (is_of_branch y) 0 (slice_set bs slot None)
      (λ k. ap (λ z. is_of_branch z (item_at (slice_set bs slot None) k)) (sym ((Decides-xid_eq x y).0 on))
      ∙ nowhere k)))
      (λ _ off. updates y ∙ ap (λ b. cond b None (lookup (xid_eq y) slots)) off ∙ are y
      ∙ sym (place_kept (is_of_branch y) 0 bs slot None (other_at bs slot x y at (swap_xid y x ∙ off)) refl)) refl

  pub order_removed : (slots later : List (XidName × ℕ)) (places : List (List ℕ × ℕ)) → IsInOrder slots places image
      → ((y : XidName) → lookup (xid_eq y) later ≡ cond (xid_eq x y) None (lookup (xid_eq y) slots))
      → IsInOrder later places removed
  order_removed slots later places o updates = record {
    slots_are = slots_removed slots later o.slots_are updates;
    places_are = o.places_are;
    apart = λ s t y on also. apart s t y (still_there s y on) (still_there t y also);
    owned = λ p c is.
        let left = left_change slot image.changes p c is in
        ap is_some (item_other bs slot c.branch None left.1) ∙ o.owned p c left.0;
  }

-- a branch that the look-up doesn't know has nothing
pub unknown_lacks : (image : Image) (slots : List (XidName × ℕ)) (x : XidName) → AreSlots slots image
    → lookup (xid_eq x) slots ≡ None → Lacks x image
unknown_lacks image slots x are none =
    let gone : state_in image x ≡ None =
    is_missing _ (sym (found_alike x image.branches 0) ∙ ap is_some (sym (are x) ∙ none)) in
    record {
      state = gone;
      sums = λ k. sum_is image x k
          ∙ unnamed image.branches (keys_of_accounts image.accounts) image.changes x k
          (λ n c is name. let z : true ≡ false = sym (named image.branches c.branch x name)
          ∙ none_stands image.branches x gone c.branch in cc);
    }

pub same_differs : (x : XidName) (image : Image) → DiffersAt x image image
same_differs x image = record { states = λ y off. refl; sums = λ y k off. refl; accounts = refl }

-- a branch stands in the slot that the look-up knows
pub known_slot : (image : Image) (slots : List (XidName × ℕ)) (x : XidName) (slot : ℕ) → AreSlots slots image
    → lookup (xid_eq x) slots ≡ Some slot
    → is_of_branch x (item_at image.branches slot) ≡ true
known_slot image slots x slot are is = passes_there (is_of_branch x) image.branches slot (sym (are x) ∙ is)
