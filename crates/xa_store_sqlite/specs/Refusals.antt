-- Which files an opening refuses, and with which fault.
use Rattle.std.specs.Prelude.{◌≡◌, ◌≢◌, ◌≤◌, ◌<◌, ◌+◌, ◌⊎◌, ℕ, ℤ, pos, Bool, true, false, List, [], ◌∷◌, length}
use Rattle.std.specs.Prelude.{None, Some, IsTrue, ⊤}
use Rattle.std.specs.List.{All, Contains}
use Rattle.sqlite_value.specs.Order.{Row}
use Rattle.sqlite_trees.specs.Tree.{Trees}
use Rattle.sqlite_trees.specs.View.{View}
use Rattle.sqlite_trees.specs.declared.error.StoreError.{StoreError}
use Rattle.sqlite_trees.specs.declared.error.StoreError.TheVariants as error
use Rattle.sqlite_store.specs.declared.error.OpenError.{OpenError}
use Rattle.sqlite_store.specs.declared.error.OpenError.TheVariants as opening
use Rattle.xa_base.specs.declared.limits.TheConstants.{MOST_KEYS, MOST_VALUE}
use Rattle.xa_words.specs.Key.{is_key}
use Rattle.xa_slots.specs.Slots.{Slot, row_of, rows_from}
use Rattle.xa_slots.specs.Reading.{HasNoSlots}
use Rattle.xa_slots.specs.declared.fault.TableReadFault.{TableReadFault}
use Rattle.xa_slots.specs.declared.fault.TableReadFault.TheVariants as unread
use Rattle.xa_store_sqlite.specs.declared.fault.Table.{Table}
use Rattle.xa_store_sqlite.specs.declared.fault.Table.TheVariants.{Accounts, Branches, Changes, Store}
use Rattle.xa_store_sqlite.specs.declared.fault.RowFault.{RowFault}
use Rattle.xa_store_sqlite.specs.declared.fault.RowFault.TheVariants.{Gap, Unknown}
use Rattle.xa_store_sqlite.specs.declared.fault.StoreOpenFault.{StoreOpenFault}
use Rattle.xa_store_sqlite.specs.declared.fault.StoreOpenFault.TheVariants.{NoMemory, Failed, NoRoom, Damaged}
use Rattle.xa_store_sqlite.specs.declared.fault.StoreOpenFault.TheVariants.{NotAStore, OtherVersion, OtherNumber}
use Rattle.xa_store_sqlite.specs.declared.fault.StoreOpenFault.TheVariants.{TooMany, BadRow}
use Rattle.xa_store_sqlite.specs.declared.mirror.Change.{Change}
use Rattle.xa_store_sqlite.specs.declared.mirror.TheConstants.{MOST_BRANCHES}
use Rattle.xa_store_sqlite.specs.Images.{StoredBranch, Image, IsAccount, IsBranchRow, IsChangeRow, branch_cells}
use Rattle.xa_store_sqlite.specs.Images.{change_cells, store_row}
use Rattle.xa_store_sqlite.specs.Writes.{AreOwned, item_at}

-- ---- faults that say nothing of the rows

-- a fault of the memory, of the disk, or of its room
abbrev pub is_of_device : StoreOpenFault → Bool
is_of_device NoMemory = true
is_of_device Failed = true
is_of_device NoRoom = true
is_of_device Damaged = true
is_of_device fault = false

-- the fault that a failed call of the store is
abbrev pub fault_of_error : StoreError → StoreOpenFault
fault_of_error error.OutOfMemory = NoMemory
fault_of_error error.Io = Failed
fault_of_error error.Corrupt = Damaged
fault_of_error error.Full = NoRoom
fault_of_error error.Broken = Failed
fault_of_error error.Unstorable = Failed

-- the fault that a failed opening of the file is, where a refusal is this
abbrev pub fault_of_opening : StoreOpenFault → OpenError → StoreOpenFault
fault_of_opening refused opening.OutOfMemory = NoMemory
fault_of_opening refused opening.Io = Failed
fault_of_opening refused opening.Full = NoRoom
fault_of_opening refused opening.Refused = refused

-- the fault that a failed reading of a table is
abbrev pub fault_of_reading : Table → TableReadFault → StoreOpenFault
fault_of_reading table (unread.Failed error) = fault_of_error error
fault_of_reading table unread.NotSlots = TooMany table

-- the same of a table that is to have no row
abbrev pub fault_of_bare : TableReadFault → StoreOpenFault
fault_of_bare (unread.Failed error) = fault_of_error error
fault_of_bare unread.NotSlots = NotAStore

-- ---- rows that no store writes

-- a table has these values in a slot
abbrev pub HasCells : List Row → ℕ → Row → Type 0
HasCells rows slot cells = Contains rows (row_of slot cells)

-- a table has such values in a slot
pub record HasSuch (IsSuch : Row → Type 0) (rows : List Row) (slot : ℕ) : Type 0 where
  pub cells : Row
  pub there : HasCells rows slot cells
  pub is_such : IsSuch cells

-- a table has values in a slot, and none in one before it
pub record HasGap (rows : List Row) (slot : ℕ) : Type 0 where
  pub cells : Row
  pub there : HasCells rows slot cells
  pub free : ℕ
  pub before : free < slot
  pub is_free : (others : Row) → HasCells rows free others → ⊥

-- a change may have this row, of a branch that the table of branches has
pub record IsChangeOf (branches : List Row) (row : Row) : Type 0 where
  pub is_change : IsChangeRow row
  pub branch : Row
  pub there : HasCells branches is_change.change.branch branch

-- a file may have this row to say what it is, in some version of the layout
pub record IsStoreRow (row : Row) : Type 0 where
  pub version : ℤ
  pub number : ℤ
  pub row_is : row ≡ store_row version number

-- no change may have this row, or none of a branch that is there
abbrev pub IsNoChangeFor : List Row → Row → RowFault → Type 0
IsNoChangeFor branches row Unknown = IsChangeOf branches row → ⊥
IsNoChangeFor branches row fault = IsChangeRow row → ⊥

-- the row in this slot of a table is none that a store writes, for this fault
abbrev pub IsBadRow : Trees → Table → ℕ → RowFault → Type 0
IsBadRow trees Accounts slot Gap = HasGap (trees 0) slot
IsBadRow trees Accounts slot fault = HasSuch (λ row. IsAccount row → ⊥) (trees 0) slot
IsBadRow trees Branches slot fault = HasSuch (λ row. IsBranchRow row → ⊥) (trees 1) slot
IsBadRow trees Changes slot fault = HasSuch (λ row. IsNoChangeFor (trees 1) row fault) (trees 2) slot
IsBadRow trees Store slot fault = HasSuch (λ row. IsStoreRow row → ⊥) (trees 3) slot

-- ---- files that no store wrote, or another store

-- a file says nothing of what it is, and has other rows
pub record IsNoStore (trees : Trees) : Type 0 where
  pub unsaid : trees 3 ≡ []
  pub table : ℕ
  pub below : table < 3
  pub has_rows : trees table ≢ []

-- a file is one of another version of the layout
pub record IsOfVersion (rows : List Row) : Type 0 where
  pub version : ℤ
  pub number : ℤ
  pub other : version ≢ pos 1
  pub rows_are : rows ≡ rows_from 1 (Some (store_row version number) ∷ [])

-- a file is one of this version, with another number
pub record IsOfNumber (wanted : ℤ) (rows : List Row) : Type 0 where
  pub number : ℤ
  pub other : number ≢ wanted
  pub rows_are : rows ≡ rows_from 1 (Some (store_row (pos 1) number) ∷ [])

-- the branches stand in no slots that leave free ones, so many
abbrev pub HasNoRoom : ℕ → List Row → Type 0
HasNoRoom room rows = (slots : List Slot) → length slots + room ≤ MOST_BRANCHES → rows ≡ rows_from 1 slots → ⊥

-- a table has more than it may: as many changes as accounts, and one row that says what the file is
abbrev pub HasTooMany : ℕ → Trees → Table → Type 0
HasTooMany room trees Accounts = HasNoSlots MOST_KEYS (trees 0)
HasTooMany room trees Branches = HasNoRoom room (trees 1)
HasTooMany room trees Changes = HasNoSlots (length (trees 0)) (trees 2)
HasTooMany room trees Store = HasNoSlots 1 (trees 3)

-- ---- why a file is refused

-- Why a table is refused that is to have slots, so many. `failed` says that the disk failed during it, and `is_broken`
-- that the transaction was broken before it.
abbrev pub IsUnreadFor : Table → ℕ → List Row → Bool → Type 0 → StoreOpenFault → Type 0
IsUnreadFor table count rows is_broken failed NoMemory = ⊤
IsUnreadFor table count rows is_broken failed Failed = failed ⊎ IsTrue is_broken
IsUnreadFor table count rows is_broken failed NoRoom = failed
IsUnreadFor table count rows is_broken failed Damaged = failed
IsUnreadFor table count rows is_broken failed (TooMany t) = (t ≡ table) × HasNoSlots count rows
IsUnreadFor table count rows is_broken failed fault = ⊥

-- why tables are refused that are to have no row
abbrev pub IsNotBareFor : Trees → Bool → Type 0 → StoreOpenFault → Type 0
IsNotBareFor trees is_broken failed NoMemory = ⊤
IsNotBareFor trees is_broken failed Failed = failed ⊎ IsTrue is_broken
IsNotBareFor trees is_broken failed NoRoom = failed
IsNotBareFor trees is_broken failed Damaged = failed
IsNotBareFor trees is_broken failed NotAStore = (t : ℕ) × (t < 3) × (trees t ≢ [])
IsNotBareFor trees is_broken failed fault = ⊥

-- Why a file with these rows is refused, where one with this number is opened that is to have room for so many branches
-- more. `failed` says that the disk failed during it, and `is_broken` that the transaction was broken before it.
abbrev pub IsRefusedFor : ℤ → ℕ → Trees → Bool → Type 0 → StoreOpenFault → Type 0
IsRefusedFor number room trees is_broken failed NoMemory = ⊤
IsRefusedFor number room trees is_broken failed Failed = failed ⊎ IsTrue is_broken
IsRefusedFor number room trees is_broken failed NoRoom = failed
IsRefusedFor number room trees is_broken failed Damaged = failed
IsRefusedFor number room trees is_broken failed NotAStore = IsNoStore trees
IsRefusedFor number room trees is_broken failed OtherVersion = IsOfVersion (trees 3)
IsRefusedFor number room trees is_broken failed OtherNumber = IsOfNumber number (trees 3)
IsRefusedFor number room trees is_broken failed (TooMany table) = HasTooMany room trees table
IsRefusedFor number room trees is_broken failed (BadRow table slot fault) = IsBadRow trees table slot fault
IsRefusedFor number room trees is_broken failed fault = ⊥

-- the same of the rows as the store sees them
abbrev pub StoreIsRefused : ℤ → ℕ → View → Type 0 → StoreOpenFault → Type 0
StoreIsRefused number room v failed fault = IsRefusedFor number room v.trees v.is_broken failed fault

-- the same where the disk didn't fail: for the rows, or for want of memory
abbrev pub IsRefusedForRows : ℤ → ℕ → Trees → StoreOpenFault → Type 0
IsRefusedForRows number room trees fault = IsRefusedFor number room trees false ⊥ fault

-- a file is another's, as this fault says
abbrev pub IsOther : ℤ → List Row → StoreOpenFault → Type 0
IsOther number rows OtherVersion = IsOfVersion rows
IsOther number rows OtherNumber = IsOfNumber number rows
IsOther number rows fault = ⊥

-- a file is refused with this fault, or with one of the device
abbrev pub IsOrOfDevice : StoreOpenFault → StoreOpenFault → Type 0
IsOrOfDevice wanted fault = (fault ≡ wanted) ⊎ (is_of_device fault ≡ true)

-- ---- files that a store wrote

-- A store with this number may have written what the file has, and its branches leave room for so many more.
pub record MayBeOfStore (number : ℤ) (room : ℕ) (image : Image) : Type 0 where
  pub number_is : image.number ≡ number
  pub are_keys : All (λ a. is_key a.0 ≡ true) image.accounts
  pub small : All (λ a. a.1 ≤ MOST_VALUE) image.accounts
  pub few : length image.accounts ≤ MOST_KEYS
  pub are_branches : (slot : ℕ) (b : StoredBranch) → item_at image.branches slot ≡ Some b → IsBranchRow (branch_cells b)
  pub taken : ℕ
  pub free : (slot : ℕ) → taken ≤ slot → item_at image.branches slot ≡ None
  pub has_room : taken + room ≤ MOST_BRANCHES
  pub paired : length image.changes ≡ length image.accounts
  pub are_changes : (place : ℕ) (c : Change) → item_at image.changes place ≡ Some c → IsChangeRow (change_cells c)
  pub owned : AreOwned image
