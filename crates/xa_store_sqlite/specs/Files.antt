-- A file as it is opened: one that is new, and is filled, and one that was there.
use Rattle.std.specs.Prelude.{◌≡◌, ◌⊎◌, ◌<◌, ℕ, zero, suc, ℤ, List, [], ◌∷◌, ◌++◌, Option, None, Some, true, false}
use Rattle.std.specs.Prelude.{codes, IsTrue}
use Rattle.sqlite_value.specs.declared.value.Value.TheVariants.{Text}
use Rattle.sqlite_disk.specs.Disk.{Only}
use Rattle.sqlite_disk.specs.declared.Disk.{Ghosts}
use Rattle.sqlite_wal.specs.Recovery as wal
use Rattle.sqlite_pages.specs.PageMap.{PageMap}
use Rattle.sqlite_pool.specs.Opening.{IsBlankFile}
use Rattle.sqlite_pool.specs.Stored.{Recovers, used_size}
use Rattle.sqlite_trees.specs.Tree.{Trees}
use Rattle.sqlite_trees.specs.View.{View, IsClean}
use Rattle.sqlite_trees.specs.declared.store.Shape.TheVariants.{Table}
use Rattle.sqlite_store.specs.Listing.{IsOurs, file_trees}
use Rattle.sqlite_store.specs.Opening.{IsEmptyFile}
use Rattle.sqlite_store.specs.declared.catalog.Wanted.{Wanted}
use Rattle.xa_tables.specs.ManagerTables as manager
use Rattle.xa_tables.specs.Managers.{opening}
use Rattle.xa_tables.specs.declared.restored.Sum.{Sum}
use Rattle.xa_slots.specs.Slots.{Slot, rows_from}
use Rattle.xa_store_sqlite.specs.declared.database.TheConstants.{PAGE_SIZE}
use Rattle.xa_store_sqlite.specs.declared.mirror.Change.{Change}
use Rattle.xa_store_sqlite.specs.Images.{StoredBranch, HasImage, Image, branch_name_at, slots_of, tables_of_image}
use Rattle.xa_store_sqlite.specs.Images.{with_sum}

-- ---- what the two files hold, as they are read

-- the bytes of the log and of the database file
abbrev pub Bytes : Type 0
Bytes = wal.Image

-- the bytes of a page before its checksum
abbrev pub page_bytes : ℕ
page_bytes = used_size PAGE_SIZE true

-- a table of this name, which this text of SQL makes
abbrev pub table_by : List ℕ → List ℕ → Wanted
table_by name sql =
    record { shape = Table; reals = 0; row = Text (codes "table") ∷ Text name ∷ Text name ∷ Text sql ∷ [] }

abbrev pub accounts_table : Wanted
accounts_table =
    table_by (codes "accounts")
    (codes "CREATE TABLE accounts(id INTEGER PRIMARY KEY, name TEXT NOT NULL, value INTEGER NOT NULL) STRICT")

abbrev pub branches_table : Wanted
branches_table =
    table_by (codes "branches")
    (codes "CREATE TABLE branches(id INTEGER PRIMARY KEY, format INTEGER NOT NULL, gtrid BLOB NOT NULL, "
    ++ codes "bqual BLOB NOT NULL, state TEXT NOT NULL) STRICT")

abbrev pub changes_table : Wanted
changes_table =
    table_by (codes "changes")
    (codes "CREATE TABLE changes(id INTEGER PRIMARY KEY REFERENCES accounts(id), "
    ++ codes "branch INTEGER NOT NULL REFERENCES branches(id), delta INTEGER NOT NULL) STRICT")

abbrev pub store_table : Wanted
store_table =
    table_by (codes "store")
    (codes "CREATE TABLE store(id INTEGER PRIMARY KEY, version INTEGER NOT NULL, number INTEGER NOT NULL) STRICT")

-- the tables of a store, by their numbers
abbrev pub store_schema : List Wanted
store_schema = accounts_table ∷ branches_table ∷ changes_table ∷ store_table ∷ []

-- the files recover to a store's database, whose tables read as these trees
pub record HasTrees (files : Bytes) (trees : Trees) : Type 0 where
  pub pages : PageMap
  pub found : Recovers page_bytes files pages
  pub ours : ∥ IsOurs page_bytes true store_schema pages ∥₁
  pub are : trees ≡ file_trees page_bytes store_schema pages

-- the four tables have no row
abbrev pub AreEmpty : Trees → Type 0
AreEmpty trees = (t : ℕ) → t < 4 → trees t ≡ []

-- a crash leaves the two files as they are read, which it does when they were just opened
abbrev pub AreSynced : {D : Type 0} → Ghosts D → D → D → Type 0
AreSynced g log db = Only (g.seen log) (g.may_leave log) × Only (g.seen db) (g.may_leave db)

-- no database was made yet, the making of one didn't end, or there is one whose schema lists no table
abbrev pub IsUnstarted : Bytes → Type 0
IsUnstarted files =
    IsBlankFile page_bytes files
    ⊎ ((pages : PageMap) × Recovers page_bytes files pages × IsEmptyFile page_bytes pages)

-- that is so, or the files have a store's database whose tables have no row
abbrev pub HasNoRow : Bytes → Type 0
HasNoRow files = ∥ IsUnstarted files ∥₁ ⊎ ((trees : Trees) × HasTrees files trees × AreEmpty trees)

-- ---- the manager's tables, and the files

-- the trees have the rows of an image of this number, and the manager's tables are those that it stands for
pub record AreOfRows (number : ℤ) (trees : Trees) (T : manager.Tables) : Type 0 where
  pub image : Image
  pub numbered : image.number ≡ number
  pub has : HasImage image trees
  pub are : T ≡ tables_of_image image

-- the trees have no row, and the manager's tables are those of an opening with these accounts
pub record AreOfAccounts (accounts : List (List ℕ × ℕ)) (trees : Trees) (T : manager.Tables) : Type 0 where
  pub empty : AreEmpty trees
  pub are : T ≡ opening accounts

-- the files have the rows of an image of this number, and the manager's tables are those that it stands for
pub record AreOfFiles (files : Bytes) (number : ℤ) (T : manager.Tables) : Type 0 where
  pub trees : Trees
  pub read : HasTrees files trees
  pub rows : AreOfRows number trees T

-- the files have no row, and the manager's tables are those of an opening with these accounts
pub record AreNewFiles (files : Bytes) (accounts : List (List ℕ × ℕ)) (T : manager.Tables) : Type 0 where
  pub none : HasNoRow files
  pub are : T ≡ opening accounts

-- the files are read as these trees, or are made with empty ones
abbrev pub AreOpenedAs : Bytes → Trees → Type 0
AreOpenedAs files trees = HasTrees files trees ⊎ (∥ IsUnstarted files ∥₁ × AreEmpty trees)

-- ---- a new file

-- the four trees have no row, as the store sees them
abbrev pub IsBare : View → Type 0
IsBare v = IsClean v → (v.is_broken ≡ false) × ((t : ℕ) → t < 4 → v.trees t ≡ [])

-- there is no branch, and no change
pub record HasAccountsAlone (image : Image) : Type 0 where
  pub branches : rows_from 1 (slots_of image 1) ≡ []
  pub changes : rows_from 1 (slots_of image 2) ≡ []

-- the first so many slots, and then free ones
abbrev pub first_slots : ℕ → List Slot → List Slot
first_slots n [] = []
first_slots zero (slot ∷ more) = None ∷ first_slots zero more
first_slots (suc n) (slot ∷ more) = slot ∷ first_slots n more

-- the first so many accounts, and nothing else
abbrev pub accounts_to : ℕ → Image → ℕ → List Slot
accounts_to n image zero = first_slots n (slots_of image 0)
accounts_to n image (suc t) = first_slots 0 (slots_of image (suc t))

-- ---- a file that was there

-- the store is open, and nothing was written since the last commit
pub record IsFresh (v : View) : Type 0 where
  pub is_open : IsClean v → IsTrue v.is_open
  pub unwritten : IsClean v → v.trees ≡ v.committed

-- the sum of a change of the account, if both are there, and its branch
abbrev pub sum_of_change : List (Option StoredBranch) → Option (List ℕ × ℕ) → Option Change → List Sum
sum_of_change branches None c = []
sum_of_change branches (Some a) None = []
sum_of_change branches (Some a) (Some c) = with_sum a.0 c.delta (branch_name_at branches c.branch) []
