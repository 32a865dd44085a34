-- What the file of a store has, the rows that say it, and the tables that it stands for.
use Rattle.std.specs.Prelude.{◌≡◌, ◌≤◌, ◌<◌, ℕ, zero, suc, ◌+◌, ℤ, pos, Bool, true, false, is_some, Ok, Option, None}
use Rattle.std.specs.Prelude.{Some, option_map}
use Rattle.std.specs.Prelude.{List, [], ◌∷◌, map, codes, FitsSigned}
use Rattle.std.specs.Int.{w32}
use Rattle.std.specs.List.{All, list_any}
use Rattle.std.specs.FinMap as finmap
use Rattle.std.specs.FinMap.{from_entries}
use Rattle.sqlite_value.specs.declared.value.Value.TheVariants.{Null, Int, Text, Blob}
use Rattle.sqlite_value.specs.Order.{Row}
use Rattle.sqlite_trees.specs.Tree.{Trees}
use Rattle.sqlite_trees.specs.View.{View, IsClean}
use Rattle.xa_base.specs.declared.limits.TheConstants.{MOST_VALUE}
use Rattle.xa_words.specs.Delta.{IsDelta}
use Rattle.xa_words.specs.Key.{is_key}
use Rattle.xa_words.specs.NewXid.{xid_of}
use Rattle.xa_words.specs.Xid.{XidName, xid_eq}
use Rattle.xa_tables.specs.ManagerTables.{state_of, touch_cmp}
use Rattle.xa_tables.specs.ManagerTables as manager
use Rattle.xa_tables.specs.Openings.{reopened}
use Rattle.xa_tables.specs.declared.state.State.{State}
use Rattle.xa_tables.specs.declared.state.State.TheVariants as state
use Rattle.xa_tables.specs.declared.state.HeuristicDecision.TheVariants.{Commit, Rollback}
use Rattle.xa_tables.specs.declared.restored.Sum.{Sum}
use Rattle.xa_tables.specs.Restored.{Stored, stored, restored, stored_value, stored_state, sum_entries}
use Rattle.xa_slots.specs.Slots.{SlotsOfTables, HasSlots, Knows, IsCommitted}
use Rattle.xa_store_sqlite.specs.declared.fault.Table.{Table}
use Rattle.xa_store_sqlite.specs.declared.fault.Table.TheVariants.{Accounts, Branches, Changes, Store}
use Rattle.xa_store_sqlite.specs.declared.mirror.Left.{Left}
use Rattle.xa_store_sqlite.specs.declared.mirror.Left.TheVariants.{Prepared, Completed}
use Rattle.xa_store_sqlite.specs.declared.mirror.Change.{Change}
use Rattle.xa_store_sqlite.specs.declared.mirror.TheConstants.{MOST_BRANCHES}

-- a branch with its state
abbrev pub StoredBranch : Type 0
StoredBranch = XidName × Left

-- what a file has: its number, the keys with their values, the branches by their slots, and by the place of each
-- account what a branch, by its slot, has added to it
pub record Image : Type 0 where
  pub number : ℤ
  pub accounts : List (List ℕ × ℕ)
  pub branches : List (Option StoredBranch)
  pub changes : List (Option Change)

-- ---- rows: the values after the rowid, of which the first is that of the column id, which is never stored

abbrev pub account_cells : List ℕ × ℕ → Row
account_cells a = Null ∷ Text a.0 ∷ Int (pos a.1) ∷ []

abbrev pub state_text : Left → List ℕ
state_text Prepared = codes "prepared"
state_text (Completed Commit) = codes "committed heuristically"
state_text (Completed Rollback) = codes "rolled back heuristically"

abbrev pub branch_cells : StoredBranch → Row
branch_cells b = Null ∷ Int b.0.format ∷ Blob b.0.gtrid ∷ Blob b.0.bqual ∷ Text (state_text b.1) ∷ []

-- the branch by its id
abbrev pub change_cells : Change → Row
change_cells c = Null ∷ Int (pos (c.branch + 1)) ∷ Int c.delta ∷ []

-- a version of the layout, and a number
abbrev pub store_row : ℤ → ℤ → Row
store_row version number = Null ∷ Int version ∷ Int number ∷ []

-- the version of this layout, and the number of the file
abbrev pub store_cells : ℤ → Row
store_cells number = store_row (pos 1) number

-- a key may have this row, with a value within the limit
pub record IsAccount (row : Row) : Type 0 where
  pub key : List ℕ
  pub value : ℕ
  pub is_named : is_key key ≡ true
  pub small : value ≤ MOST_VALUE
  pub row_is : row ≡ account_cells (key, value)

-- a branch may have this row: one with a name, in a state that an opening leaves
pub record IsBranchRow (row : Row) : Type 0 where
  pub name : XidName
  pub left : Left
  pub fits : FitsSigned w32 name.format
  pub is_named : xid_of name.format name.gtrid name.bqual ≡ Ok name
  pub row_is : row ≡ branch_cells (name, left)

-- a change of the branch in some slot may have this row
pub record IsChangeRow (row : Row) : Type 0 where
  pub change : Change
  pub slot : change.branch < MOST_BRANCHES
  pub delta : IsDelta change.delta
  pub row_is : row ≡ change_cells change

-- the number of a table among the trees of the file
abbrev pub table_number : Table → ℕ
table_number Accounts = 0
table_number Branches = 1
table_number Changes = 2
table_number Store = 3

-- the four tables: accounts, branches, changes, store
abbrev pub slots_of : Image → SlotsOfTables
slots_of image zero = map (λ a. Some (account_cells a)) image.accounts
slots_of image (suc zero) = map (λ b. option_map branch_cells b) image.branches
slots_of image (suc (suc zero)) = map (λ c. option_map change_cells c) image.changes
slots_of image (suc (suc (suc zero))) = Some (store_cells image.number) ∷ []
slots_of image (suc (suc (suc (suc t)))) = []

-- the trees have these rows, and no others
abbrev pub HasImage : Image → Trees → Type 0
HasImage image trees = HasSlots 4 (slots_of image) trees

-- ---- the tables that it stands for

abbrev pub state_of_left : Left → State
state_of_left Prepared = state.Prepared
state_of_left (Completed decision) = state.HeuristicallyCompleted decision

-- the same of a state, where an opening leaves a branch that is in it
abbrev pub left_in : Option State → Option Left
left_in (Some state.Prepared) = Some Prepared
left_in (Some (state.HeuristicallyCompleted decision)) = Some (Completed decision)
left_in s = None

-- the branches of the slots that are taken
abbrev pub left_in_slots : List (Option StoredBranch) → List (XidName × State)
left_in_slots [] = []
left_in_slots (None ∷ branches) = left_in_slots branches
left_in_slots (Some b ∷ branches) = (b.0, state_of_left b.1) ∷ left_in_slots branches

-- the name of the branch in a slot
abbrev pub branch_name_at : List (Option StoredBranch) → ℕ → Option XidName
branch_name_at [] slot = None
branch_name_at (b ∷ branches) zero = option_map (λ b. b.0) b
branch_name_at (b ∷ branches) (suc slot) = branch_name_at branches slot

-- the sum of a change of this key, if its branch is there, before others
abbrev pub with_sum : List ℕ → ℤ → Option XidName → List Sum → List Sum
with_sum key delta None sums = sums
with_sum key delta (Some xid) sums = record { xid = xid; key = key; delta = delta } ∷ sums

-- the sums of the changes, each of the key at its place
abbrev pub sums_of : List (Option StoredBranch) → List (List ℕ × ℕ) → List (Option Change) → List Sum
sums_of branches [] changes = []
sums_of branches (a ∷ accounts) [] = []
sums_of branches (a ∷ accounts) (None ∷ changes) = sums_of branches accounts changes
sums_of branches (a ∷ accounts) (Some c ∷ changes) =
    with_sum a.0 c.delta (branch_name_at branches c.branch) (sums_of branches accounts changes)

-- what it says of the manager
abbrev pub stored_of : Image → Stored
stored_of image =
    stored image.accounts (left_in_slots image.branches) (sums_of image.branches image.accounts image.changes)

-- the tables that a manager which is restored from it begins with
abbrev pub tables_of_image : Image → manager.Tables
tables_of_image image = restored (stored_of image)

-- ---- what it has of a manager's tables

-- the state of a branch, and what it has added to a key
abbrev pub state_in : Image → XidName → Option State
state_in image x = stored_state (left_in_slots image.branches) x

abbrev pub sum_in : Image → XidName → List ℕ → Option ℤ
sum_in image x k =
    finmap.get (from_entries {R = touch_cmp} (sum_entries (sums_of image.branches image.accounts image.changes))) (x, k)

-- it has of a branch just what a reopening of the tables finds
pub record HasOf (x : XidName) (image : Image) (T : manager.Tables) : Type 0 where
  pub state : state_in image x ≡ state_of (reopened T) x
  pub sums : (k : List ℕ) → sum_in image x k ≡ finmap.get (reopened T).sums (x, k)

-- it has of each branch what a reopening of the tables finds, but of those that the store was told of, and the same
-- keys with their values, unless these may have moved
pub record HasAllBut (told : List XidName) (are_moved : Bool) (image : Image) (T : manager.Tables) : Type 0 where
  pub branches : (x : XidName) → list_any (xid_eq x) told ≡ false → HasOf x image T
  pub keys : (k : List ℕ) → is_some (stored_value image.accounts k) ≡ is_some (finmap.get T.values k)
  pub values : are_moved ≡ false → (k : List ℕ) → stored_value image.accounts k ≡ finmap.get T.values k

-- ---- what a write changes of it

-- it has nothing of a branch
pub record Lacks (x : XidName) (image : Image) : Type 0 where
  pub state : state_in image x ≡ None
  pub sums : (k : List ℕ) → sum_in image x k ≡ None

-- it has the same of all branches but one, and the same accounts
pub record DiffersAt (x : XidName) (old new : Image) : Type 0 where
  pub states : (y : XidName) → xid_eq y x ≡ false → state_in new y ≡ state_in old y
  pub sums : (y : XidName) (k : List ℕ) → xid_eq y x ≡ false → sum_in new y k ≡ sum_in old y k
  pub accounts : new.accounts ≡ old.accounts

-- the keys of accounts, in their order
abbrev pub keys_of_accounts : List (List ℕ × ℕ) → List (List ℕ)
keys_of_accounts accounts = map (λ a. a.0) accounts

-- the values of these accounts are those of the tables
abbrev pub AreStoredValues : manager.Tables → List (List ℕ × ℕ) → Type 0
AreStoredValues T accounts = All (λ a. Some (pos a.1) ≡ finmap.get T.values a.0) accounts

-- it has the same of all branches, and the same keys, with the values of the tables
pub record HasValuesOf (T : manager.Tables) (old new : Image) : Type 0 where
  pub branches : new.branches ≡ old.branches
  pub changes : new.changes ≡ old.changes
  pub keys : keys_of_accounts new.accounts ≡ keys_of_accounts old.accounts
  pub values : (k : List ℕ) → is_some (stored_value old.accounts k) ≡ true
      → stored_value new.accounts k ≡ finmap.get T.values k
  pub others : (k : List ℕ) → is_some (stored_value old.accounts k) ≡ false → stored_value new.accounts k ≡ None

-- ---- what a crash leaves of it

-- where a crash may leave such trees, it may leave these tables: the trees have the rows of a file that stands for them
pub record LeavesTables (view : View) (recovers : Trees → Type 0) (K : manager.Tables) : Type 0 where
  pub image : Image
  pub trees : Trees
  pub clean : IsClean view
  pub left : recovers trees
  pub has : HasImage image trees
  pub is : K ≡ tables_of_image image

-- the file has the rows of the image as its store sees it, and whenever a crash comes from now on
pub record IsSettledImage (view : View) (recovers : Trees → Type 0) (image : Image) : Type 0 where
  pub seen : Knows 4 view (slots_of image)
  pub kept : IsCommitted 4 view recovers (slots_of image)
