-- Tables of slots, and the trees that stand for them.
use Rattle.std.specs.Prelude.{◌≡◌, ℕ, suc, ◌+◌, ◌<◌, ◌==◌, if◌then◌else◌, pos, false, List, [], ◌∷◌}
use Rattle.std.specs.Prelude.{slice_set, Option, None, Some}
use Rattle.sqlite_value.specs.declared.value.Value.TheVariants.{Int}
use Rattle.sqlite_value.specs.Order.{Row}
use Rattle.sqlite_trees.specs.Tree.{Trees}
use Rattle.sqlite_trees.specs.View.{View, IsClean}
use Rattle.sqlite_trees.specs.declared.store.Shape.TheVariants.{Table}

-- what a slot has: nothing, or the values of a row
abbrev pub Slot : Type 0
Slot = Option Row

-- the slots of each table, by its number
abbrev pub SlotsOfTables : Type 0
SlotsOfTables = ℕ → List Slot

-- the row of slot k with these values
abbrev pub row_of : ℕ → Row → Row
row_of k cells = Int (pos (k + 1)) ∷ cells

-- the rows of slots, the first of which has the rowid n
abbrev pub rows_from : ℕ → List Slot → List Row
rows_from n [] = []
rows_from n (None ∷ slots) = rows_from (suc n) slots
rows_from n (Some cells ∷ slots) = (Int (pos n) ∷ cells) ∷ rows_from (suc n) slots

-- the first trees, so many, have the rows of these slots and no others
abbrev pub HasSlots : ℕ → SlotsOfTables → Trees → Type 0
HasSlots many all trees = (t : ℕ) → t < many → trees t ≡ rows_from 1 (all t)

-- table t has this in its slot k
abbrev pub with_slot : SlotsOfTables → ℕ → ℕ → Slot → SlotsOfTables
with_slot all t k slot u = if u == t then slice_set (all t) k slot else all u

-- the first trees, so many, are tables
abbrev pub HasTables : ℕ → View → Type 0
HasTables many v = (t : ℕ) → t < many → v.shape t ≡ Table

-- the slots are these, as the transaction sees them, if the disk has returned what was written
abbrev pub Knows : ℕ → View → SlotsOfTables → Type 0
Knows many v all = IsClean v → (v.is_broken ≡ false) × HasSlots many all v.trees

-- they are those that an open finds, whenever a crash comes from now on
abbrev pub IsCommitted : ℕ → View → (Trees → Type 0) → SlotsOfTables → Type 0
IsCommitted many v recovers all = IsClean v → (db : Trees) → recovers db → HasSlots many all db
