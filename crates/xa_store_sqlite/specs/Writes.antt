-- What writes make of an image.
use Rattle.std.specs.Prelude.{◌≡◌, ◌<◌, ◌==◌, ℕ, zero, suc, List, [], ◌∷◌, map, slice_set, Option, None, Some, Bool}
use Rattle.std.specs.Prelude.{true, false, is_some, if◌then◌else◌, replicate, ◌&&◌, ℤ}
use Rattle.std.specs.List.{list_any}
use Rattle.std.specs.Map.{lookup}
use Rattle.xa_words.specs.Xid.{XidName, xid_eq}
use Rattle.xa_words.specs.Key.{key_eq}
use Rattle.xa_words.specs.declared.request.Op.{Op}
use Rattle.xa_words.specs.declared.request.Op.TheVariants.{Commit, Rollback, Forget}
use Rattle.xa_tables.specs.ManagerTables.{Tables}
use Rattle.xa_slots.specs.Slots.{IsCommitted, Knows}
use Rattle.sqlite_trees.specs.Tree.{Trees}
use Rattle.sqlite_trees.specs.View.{View, IsClean}
use Rattle.sqlite_store.specs.declared.catalog.Wanted.{Wanted}
use Rattle.sqlite_trees.specs.declared.store.Shape.TheVariants.{Table}
use Rattle.xa_store_sqlite.specs.declared.mirror.Change.{Change}
use Rattle.xa_store_sqlite.specs.declared.mirror.Mirror.{Mirror}
use Rattle.xa_store_sqlite.specs.declared.mirror.Left.{Left}
use Rattle.xa_store_sqlite.specs.Images.{StoredBranch, HasAllBut, HasOf, Image, IsSettledImage, Lacks, branch_name_at}
use Rattle.xa_store_sqlite.specs.Images.{slots_of, state_in, state_of_left, sum_in}

-- what a copy of the rows says
abbrev pub image_of : Mirror → Image
image_of m =
    record { number = m.number; accounts = m.accounts.items; branches = m.branches.items; changes = m.changes.items }

-- the account at a place, the branch in a slot, and the change of the account at a place is this one
abbrev pub with_account : Image → ℕ → List ℕ × ℕ → Image
with_account image place account = record image { accounts = slice_set image.accounts place account }

abbrev pub with_branch : Image → ℕ → Option StoredBranch → Image
with_branch image slot branch = record image { branches = slice_set image.branches slot branch }

abbrev pub with_change : Image → ℕ → Option Change → Image
with_change image place change = record image { changes = slice_set image.changes place change }

-- the branch has added this amount to the key, and nothing else has changed
pub record PutsSum (x : XidName) (k : List ℕ) (amount : ℤ) (old new : Image) : Type 0 where
  pub branches : new.branches ≡ old.branches
  pub accounts : new.accounts ≡ old.accounts
  pub sums : (y : XidName) (l : List ℕ)
      → sum_in new y l ≡ (if xid_eq x y && key_eq k l then Some amount else sum_in old y l)

-- the branch has added these amounts to these keys, and nothing to others, and nothing else has changed
pub record PutsSums (x : XidName) (amounts : List (List ℕ × ℤ)) (old new : Image) : Type 0 where
  pub branches : new.branches ≡ old.branches
  pub accounts : new.accounts ≡ old.accounts
  pub own : (k : List ℕ) → sum_in new x k ≡ lookup (key_eq k) amounts
  pub others : (y : XidName) (k : List ℕ) → xid_eq y x ≡ false → sum_in new y k ≡ sum_in old y k

-- the branch stands in this slot in this state, where it stood nowhere, and nothing else has changed
pub record PutsBranch (slot : ℕ) (x : XidName) (left : Left) (old new : Image) : Type 0 where
  pub name : branch_name_at new.branches slot ≡ Some x
  pub state : state_in new x ≡ Some (state_of_left left)
  pub states : (y : XidName) → xid_eq y x ≡ false → state_in new y ≡ state_in old y
  pub sums : (y : XidName) (k : List ℕ) → sum_in new y k ≡ sum_in old y k
  pub accounts : new.accounts ≡ old.accounts

-- it has nothing of these branches any more, and the same of all others, and the same accounts
pub record RemovesAll (xs : List XidName) (old new : Image) : Type 0 where
  pub gone : (x : XidName) → list_any (xid_eq x) xs ≡ true → Lacks x new
  pub states : (x : XidName) → list_any (xid_eq x) xs ≡ false → state_in new x ≡ state_in old x
  pub sums : (x : XidName) (k : List ℕ) → list_any (xid_eq x) xs ≡ false → sum_in new x k ≡ sum_in old x k
  pub accounts : new.accounts ≡ old.accounts

-- it has of these branches what a reopening of the tables finds, and the same of all others, and the same accounts
pub record PutsAll (xs : List XidName) (T : Tables) (old new : Image) : Type 0 where
  pub own : (x : XidName) → list_any (xid_eq x) xs ≡ true → HasOf x new T
  pub states : (x : XidName) → list_any (xid_eq x) xs ≡ false → state_in new x ≡ state_in old x
  pub sums : (x : XidName) (k : List ℕ) → list_any (xid_eq x) xs ≡ false → sum_in new x k ≡ sum_in old x k
  pub accounts : new.accounts ≡ old.accounts

-- whether a change is of the branch in a slot
abbrev pub is_of_slot : ℕ → Option Change → Bool
is_of_slot slot None = false
is_of_slot slot (Some c) = c.branch == slot

-- a change, unless it is of the branch in a slot
abbrev pub unless_of : ℕ → Option Change → Option Change
unless_of slot c = if is_of_slot slot c then None else c

-- no account has a change of the branch in a slot
abbrev pub without_changes : Image → ℕ → Image
without_changes image slot = record image { changes = map (λ c. unless_of slot c) image.changes }

-- the four trees are tables, and were when the store was last committed
abbrev pub IsLaid : View → Type 0
IsLaid v = IsClean v → (t : ℕ) → t < 4 → (v.shape t ≡ Table) × (v.committed_shape t ≡ Table)

-- a schema of four tables
abbrev pub AreTables : List Wanted → Type 0
AreTables schema = map (λ w. w.shape) schema ≡ replicate 4 Table

-- the request ends a branch, or forgets it: it is gone where this is done
abbrev pub is_removing : Op → Bool
is_removing (Commit y one_phase) = true
is_removing (Rollback y) = true
is_removing (Forget y) = true
is_removing op = false

-- ---- where things stand

-- the first place of an item that passes, where the list begins with this place
abbrev pub first_place_from : {A : Type 0} → (A → Bool) → ℕ → List A → Option ℕ
first_place_from test n [] = None
first_place_from test n (x ∷ xs) = if test x then Some n else first_place_from test (suc n) xs

-- whether a slot has this branch
abbrev pub is_of_branch : XidName → Option StoredBranch → Bool
is_of_branch x None = false
is_of_branch x (Some b) = xid_eq x b.0

-- each branch stands in this slot, and each key at this place
abbrev pub AreSlots : List (XidName × ℕ) → Image → Type 0
AreSlots slots image = (x : XidName) → lookup (xid_eq x) slots ≡ first_place_from (is_of_branch x) 0 image.branches

abbrev pub ArePlaces : List (List ℕ × ℕ) → Image → Type 0
ArePlaces places image = (k : List ℕ) → lookup (key_eq k) places ≡ first_place_from (λ a. key_eq k a.0) 0 image.accounts

-- what stands at a place, and nothing past the end
abbrev pub item_at : {A : Type 0} → List (Option A) → ℕ → Option A
item_at [] k = None
item_at (x ∷ xs) zero = x
item_at (x ∷ xs) (suc k) = item_at xs k

-- no branch stands in two slots
abbrev pub NoBranchTwice : List (Option StoredBranch) → Type 0
NoBranchTwice branches =
    (s t : ℕ) (x : XidName) → is_of_branch x (item_at branches s) ≡ true → is_of_branch x (item_at branches t) ≡ true
    → s ≡ t

-- each change is of a branch that is there
abbrev pub AreOwnedBy : List (Option StoredBranch) → List (Option Change) → Type 0
AreOwnedBy branches changes =
    (p : ℕ) (c : Change) → item_at changes p ≡ Some c → is_some (item_at branches c.branch) ≡ true

abbrev pub AreOwned : Image → Type 0
AreOwned image = AreOwnedBy image.branches image.changes

-- the store sees the rows of the image, and where nothing was written since the last commit they are committed
pub record IsSeen (view : View) (recovers : Trees → Type 0) (is_written : Bool) (image : Image) : Type 0 where
  pub seen : Knows 4 view (slots_of image)
  pub committed : is_written ≡ false → IsCommitted 4 view recovers (slots_of image)

-- the look-ups of branches and accounts are right, and each branch stands once, and so does that of each change
pub record IsInOrder (slots : List (XidName × ℕ)) (places : List (List ℕ × ℕ)) (image : Image) : Type 0 where
  pub slots_are : AreSlots slots image
  pub places_are : ArePlaces places image
  pub apart : NoBranchTwice image.branches
  pub owned : AreOwned image

-- it has nothing of these branches
abbrev pub LackAll : List XidName → Image → Type 0
LackAll xs image = (x : XidName) → list_any (xid_eq x) xs ≡ true → Lacks x image

-- the file has all but what the store was told of since its last settle, as the store sees it and after a crash
pub record KnowsAllBut (told : List XidName) (are_moved : Bool) (view : View) (recovers : Trees → Type 0)
    (image : Image) (slots : List (XidName × ℕ)) (places : List (List ℕ × ℕ)) (T : Tables) : Type 0 where
  pub has : HasAllBut told are_moved image T
  pub settled : IsSettledImage view recovers image
  pub order : IsInOrder slots places image
