-- A new file is filled, account by account.
use Rattle.xa_base.proofs.{◌≡◌, ℕ, zero, suc, ◌+◌, ◌<◌, List, [], ◌∷◌, length, length-map, map, replicate, slice_get}
use Rattle.xa_base.proofs.{slice_set, Option, None, Some, option_map, refl, ap, sym, ◌∙◌, arith, same_Some, subst}
use Rattle.sqlite_trees.specs.Tree.{Trees}
use Rattle.sqlite_trees.specs.View.{View}
use Rattle.xa_slots.specs.{HasSlots, Knows, Slot, rows_from, with_slot}
use Rattle.xa_store_sqlite.specs.{AreOwnedBy, StoredBranch, Change, HasImage, Image, account_cells, branch_cells}
use Rattle.xa_store_sqlite.specs.{change_cells, item_at, slots_of, store_cells}
use Rattle.xa_store_sqlite.specs.Files.{HasAccountsAlone, IsBare, accounts_to, first_slots}
use Rattle.xa_store_sqlite.proofs.Slots.{among}
use Rattle.xa_store_sqlite.proofs.Values.{slice_within}

-- ---- slots, of which the first are written

first_set : (xs : List Slot) (n : ℕ) (x : Slot) → slice_get xs n ≡ Some x
    → slice_set (first_slots n xs) n x ≡ first_slots (suc n) xs
first_set [] n x is = let z : None ≡ Some x = is in cc
first_set (y ∷ xs) zero x is = ap (λ (s : Slot). s ∷ first_slots 0 xs) (sym (same_Some _ _ is))
first_set (y ∷ xs) (suc n) x is = ap (λ (l : List Slot). y ∷ l) (first_set xs n x is)

first_length : (n : ℕ) (xs : List Slot) → length (first_slots n xs) ≡ length xs
first_length n [] = refl
first_length zero (x ∷ xs) = ap (λ (m : ℕ). suc m) (first_length 0 xs)
first_length (suc n) (x ∷ xs) = ap (λ (m : ℕ). suc m) (first_length n xs)

first_all : (xs : List Slot) → first_slots (length xs) xs ≡ xs
first_all [] = refl
first_all (x ∷ xs) = ap (λ (l : List Slot). x ∷ l) (first_all xs)

none_first : (m : ℕ) (xs : List Slot) → rows_from m (first_slots 0 xs) ≡ []
none_first m [] = refl
none_first m (x ∷ xs) = none_first (suc m) xs

got_account : (us : List (List ℕ × ℕ)) (n : ℕ) (a : List ℕ × ℕ) → slice_get us n ≡ Some a
    → slice_get (map (λ b. Some (account_cells b)) us) n ≡ Some (Some (account_cells a))
got_account [] n a is = let z : None ≡ Some a = is in cc
got_account (u ∷ us) zero a is = ap (λ (b : List ℕ × ℕ). Some (Some (account_cells b))) (same_Some _ _ is)
got_account (u ∷ us) (suc n) a is = got_account us n a is

-- ---- one account more

pub room_next : (image : Image) (n : ℕ) (a : List ℕ × ℕ) → slice_get image.accounts n ≡ Some a
    → n < length (accounts_to n image 0)
room_next image n a is =
    subst (λ (m : ℕ). n < m) (sym (first_length n (slots_of image 0)))
    (among _ image.accounts n (slice_within image.accounts n a is))

has_next : (image : Image) (n : ℕ) (a : List ℕ × ℕ) (trees : Trees) → slice_get image.accounts n ≡ Some a
    → HasSlots 4 (with_slot (accounts_to n image) 0 n (Some (account_cells a))) trees
    → HasSlots 4 (accounts_to (n + 1) image) trees
has_next image n a trees is has zero below =
    let one : suc n ≡ n + 1 = omega arith in
    has 0 below
    ∙ ap (rows_from 1)
    (first_set (slots_of image 0) n (Some (account_cells a)) (got_account image.accounts n a is)
    ∙ ap (λ (m : ℕ). first_slots m (slots_of image 0)) one)
has_next image n a trees is has (suc zero) below = has 1 below
has_next image n a trees is has (suc (suc zero)) below = has 2 below
has_next image n a trees is has (suc (suc (suc zero))) below = has 3 below
has_next image n a trees is has (suc (suc (suc (suc t)))) below = absurd (omega (arith, below))

pub knows_next : (v : View) (image : Image) (n : ℕ) (slot : Slot) (a : List ℕ × ℕ) → slice_get image.accounts n ≡ Some a
    → slot ≡ Some (account_cells a)
    → Knows 4 v (with_slot (accounts_to n image) 0 n slot) → Knows 4 v (accounts_to (n + 1) image)
knows_next v image n slot a at is knows clean =
    let done = knows clean in (
      done.0,
      has_next image n a v.trees at
          (subst (λ (s : Slot). HasSlots 4 (with_slot (accounts_to n image) 0 n s) v.trees) is done.1),
    )

-- ---- the first, and what is written last

none_yet : (image : Image) (t : ℕ) → rows_from 1 (accounts_to 0 image t) ≡ []
none_yet image zero = none_first 1 (slots_of image 0)
none_yet image (suc t) = none_first 1 (slots_of image (suc t))

pub knows_bare : (v : View) (image : Image) → IsBare v → Knows 4 v (accounts_to 0 image)
knows_bare v image bare clean = let b = bare clean in (b.0, λ t below. b.1 t below ∙ sym (none_yet image t))

has_all : (image : Image) (trees : Trees) → HasAccountsAlone image
    → HasSlots 4 (with_slot (accounts_to (length image.accounts) image) 3 0 (Some (store_cells image.number))) trees
    → HasImage image trees
has_all image trees alone has zero below =
    has 0 below
    ∙ ap (rows_from 1)
    (ap (λ (m : ℕ). first_slots m (slots_of image 0)) (sym (length-map image.accounts (λ b. Some (account_cells b))))
    ∙ first_all (slots_of image 0))
has_all image trees alone has (suc zero) below = has 1 below ∙ none_first 1 (slots_of image 1) ∙ sym alone.branches
has_all image trees alone has (suc (suc zero)) below = has 2 below ∙ none_first 1 (slots_of image 2) ∙ sym alone.changes
has_all image trees alone has (suc (suc (suc zero))) below = has 3 below
has_all image trees alone has (suc (suc (suc (suc t)))) below = absurd (omega (arith, below))

pub knows_all : (v : View) (image : Image) (slot : Slot) → HasAccountsAlone image
    → slot ≡ Some (store_cells image.number)
    → Knows 4 v (with_slot (accounts_to (length image.accounts) image) 3 0 slot) → Knows 4 v (slots_of image)
knows_all v image slot alone is knows clean =
    let done = knows clean in (
      done.0,
      has_all image v.trees alone
          (subst (λ (s : Slot). HasSlots 4 (with_slot (accounts_to (length image.accounts) image) 3 0 s) v.trees) is
          done.1),
    )

-- ---- a copy of a new file

free_branches : (m n : ℕ) → rows_from m (map (λ b. option_map branch_cells b) (replicate n None)) ≡ []
free_branches m zero = refl
free_branches m (suc n) = free_branches (suc m) n

free_changes : (m n : ℕ) → rows_from m (map (λ c. option_map change_cells c) (replicate n None)) ≡ []
free_changes m zero = refl
free_changes m (suc n) = free_changes (suc m) n

pub accounts_alone : (image : Image) (m n : ℕ) → image.branches ≡ replicate m None → image.changes ≡ replicate n None
    → HasAccountsAlone image
accounts_alone image m n branches changes = record {
  branches = ap (λ (l : List (Option StoredBranch)). rows_from 1 (map (λ b. option_map branch_cells b) l)) branches
      ∙ free_branches 1 m;
  changes = ap (λ (l : List (Option Change)). rows_from 1 (map (λ c. option_map change_cells c) l)) changes
      ∙ free_changes 1 n;
}

no_change : (n p : ℕ) → item_at {A = Change} (replicate n None) p ≡ None
no_change zero p = refl
no_change (suc n) zero = refl
no_change (suc n) (suc p) = no_change n p

pub owned_alone : (image : Image) (n : ℕ) → image.changes ≡ replicate n None → AreOwnedBy image.branches image.changes
owned_alone image n changes p c is =
    let z : None ≡ Some c = sym (no_change n p) ∙ ap (λ (l : List (Option Change)). item_at l p) (sym changes) ∙ is in
    cc
