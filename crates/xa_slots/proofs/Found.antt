-- What reading the rows of a table finds.
use Rattle.std.proofs.Common.{◌≡◌, ℕ, suc, ◌+◌, ◌<◌, ◌≤◌, pos, List, [], ◌∷◌, ◌++◌, length, take, drop, None, Some}
use Rattle.std.proofs.Common.{refl, sym, ap, ◌∙◌, arith, rules, inl, inr, ◌⊎◌}
use Rattle.std.proofs.lemmas.List.{drop-append-le, length-take-le, take_more}
use Rattle.sqlite_value.specs.declared.value.Value.{Value}
use Rattle.sqlite_value.specs.declared.value.Value.TheVariants.{Int, Null}
use Rattle.sqlite_value.specs.Order.{Row, column}
use Rattle.sqlite_value.specs.declared.keys.Order.{Order}
use Rattle.sqlite_trees.specs.Tree.{from_key}
use Rattle.sqlite_trees.specs.View.{View}
use Rattle.sqlite_trees.specs.declared.error.StoreError.TheVariants.{OutOfMemory}
use Rattle.xa_slots.specs.{EndsTaken, Failed, HasNoSlots, HasReadCause, IsSlotRow, NotSlots, TableReadFault, Slot}
use Rattle.xa_slots.specs.{rows_from}

-- ---- slots that are added

-- an empty slot has no row
pub rows_none : (n : ℕ) (slots : List Slot) → rows_from n (slots ++ None ∷ []) ≡ rows_from n slots
rows_none n [] = refl
rows_none n (None ∷ slots) = rows_none (suc n) slots
rows_none n (Some own ∷ slots) = ap (λ (rows : List Row). (Int (pos n) ∷ own) ∷ rows) (rows_none (suc n) slots)

pub rows_some : (n m : ℕ) (slots : List Slot) (cells : Row) → m ≡ n + length slots
    → rows_from n (slots ++ Some cells ∷ []) ≡ rows_from n slots ++ (Int (pos m) ∷ cells) ∷ []
rows_some n m [] cells e = ap (λ (i : ℕ). (Int (pos i) ∷ cells) ∷ []) (omega (arith, e))
rows_some n m (None ∷ slots) cells e = rows_some (suc n) m slots cells (omega (arith, e))
rows_some n m (Some own ∷ slots) cells e =
    ap (λ (rows : List Row). (Int (pos n) ∷ own) ∷ rows) (rows_some (suc n) m slots cells (omega (arith, e)))

pub ends_taken : (slots : List Slot) (cells : Row) → EndsTaken (slots ++ Some cells ∷ [])
ends_taken [] cells = search rules
ends_taken (slot ∷ []) cells = search rules
ends_taken (slot ∷ next ∷ slots) cells = ends_taken (next ∷ slots) cells

-- the values of a row after its rowid, one more of them
pub cells_more : (row : Row) (at : ℕ) → 1 ≤ at → at < length row
    → drop 1 (take (at + 1) row) ≡ drop 1 (take at row) ++ column row at ∷ []
cells_more row at low within =
    let len : length (take at row) ≡ at = length-take-le at row (omega (arith, within)) in
    ap (λ (cells : List Value). drop 1 cells) (take_more row at Null within)
    ∙ drop-append-le 1 (take at row) (column row at ∷ []) (omega (arith, len, low))

-- ---- tables with other rows

abbrev first_of : Row → List Row → Row
first_of else_row [] = else_row
first_of else_row (row ∷ rows) = row

abbrev later_of : List Row → List Row
later_of [] = []
later_of (row ∷ rows) = rows

abbrev rowid_in : Row → ℕ
rowid_in (Int (pos n) ∷ cells) = n
rowid_in _ = 0

-- the row is that of a slot from this one on, where the first slot has the rowid n
record IsFrom (n first count : ℕ) (row : Row) : Type 0 where
  slot : ℕ
  cells : Row
  from : first ≤ slot
  below : slot < count
  row_is : row ≡ Int (pos (n + slot)) ∷ cells

-- one slot later
later : (n first count : ℕ) (row : Row) → IsFrom (suc n) first count row → IsFrom n (suc first) (suc count) row
later n first count row is = record {
  slot = suc is.slot;
  cells = is.cells;
  from = let le = is.from in omega arith;
  below = let lt = is.below in omega arith;
  row_is = is.row_is ∙ ap (λ (m : ℕ). Int (pos m) ∷ is.cells) (omega arith);
}

none_there : (row : Row) (rows before : List Row) → [] ≡ before ++ row ∷ rows → ⊥
none_there row rows [] e = let z : 0 ≡ suc (length rows) = ap length e in omega (arith, z)
none_there row rows (other ∷ before) e =
    let z : 0 ≡ suc (length (before ++ row ∷ rows)) = ap length e in omega (arith, z)

first_from : (n : ℕ) (slots : List Slot) (row : Row) (rest : List Row) → rows_from n slots ≡ row ∷ rest
    → IsFrom n 0 (length slots) row
first_from n [] row rest e = absurd (none_there row rest [] e)
first_from n (None ∷ slots) row rest e =
    let is = later n 0 (length slots) row (first_from (suc n) slots row rest e) in
    record { slot = is.slot; cells = is.cells; from = omega arith; below = is.below; row_is = is.row_is }
first_from n (Some own ∷ slots) row rest e = record {
  slot = 0;
  cells = own;
  from = omega arith;
  below = omega arith;
  row_is = sym (ap (first_of row) e) ∙ ap (λ (m : ℕ). Int (pos m) ∷ own) (omega arith);
}

-- rows of slots that end with one that is taken begin with a rowid that is no lower
first_above : (n : ℕ) (slot : Slot) (slots : List Slot) (row : Row) (rows more : List Row) → EndsTaken (slot ∷ slots)
    → row ∷ rows ≡ rows_from n (slot ∷ slots) ++ more → n ≤ rowid_in row
first_above n (Some own) slots row rows more ends e =
    let same : rowid_in row ≡ n = ap (λ (found : List Row). rowid_in (first_of row found)) e in omega (arith, same)
first_above n None [] row rows more ends e = absurd (search (rules, ends))
first_above n None (slot ∷ slots) row rows more ends e =
    let above : suc n ≤ rowid_in row = first_above (suc n) slot slots row rows more ends e in omega (arith, above)

rest_taken : (slot : Slot) (slots : List Slot) → EndsTaken (slot ∷ slots) → EndsTaken slots
rest_taken slot [] ends = search rules
rest_taken slot (next ∷ slots) ends = ends

-- the row after those of slots that were found is that of a later slot
next_slot : (n : ℕ) (found slots : List Slot) (row : Row) (rest : List Row) → EndsTaken found
    → rows_from n slots ≡ rows_from n found ++ row ∷ rest → IsFrom n (length found) (length slots) row
next_slot n [] slots row rest ends e = first_from n slots row rest e
next_slot n (None ∷ []) slots row rest ends e = absurd (search (rules, ends))
next_slot n (None ∷ next ∷ found) [] row rest ends e = absurd (none_there row rest (rows_from (suc n) (next ∷ found)) e)
next_slot n (None ∷ next ∷ found) (None ∷ slots) row rest ends e =
    later n _ _ row (next_slot (suc n) (next ∷ found) slots row rest ends e)
next_slot n (None ∷ next ∷ found) (Some own ∷ slots) row rest ends e =
    let above : suc n ≤ n =
    first_above (suc n) next found (Int (pos n) ∷ own) (rows_from (suc n) slots) (row ∷ rest) ends e in
    absurd (omega (arith, above))
next_slot n (Some had ∷ found) [] row rest ends e =
    absurd (none_there row rest ((Int (pos n) ∷ had) ∷ rows_from (suc n) found) e)
next_slot n (Some had ∷ found) (None ∷ slots) row rest ends e =
    let is = first_from (suc n) slots (Int (pos n) ∷ had) (rows_from (suc n) found ++ row ∷ rest) e in
    let same : n ≡ suc n + is.slot = ap rowid_in is.row_is in
    absurd (omega (arith, same))
next_slot n (Some had ∷ found) (Some own ∷ slots) row rest ends e =
    later n _ _ row (next_slot (suc n) found slots row rest (rest_taken (Some had) found ends) (ap later_of e))

pub no_slots : (count : ℕ) (found : List Slot) (row : Row) (rest rows : List Row) → EndsTaken found
    → rows ≡ rows_from 1 found ++ row ∷ rest → (IsSlotRow (length found) count row → ⊥) → HasNoSlots count rows
no_slots count found row rest rows ends e none slots len same =
    let is = next_slot 1 found slots row rest ends (sym same ∙ e) in
    let below : is.slot < length slots = is.below in
    none (record {
      slot = is.slot;
      cells = is.cells;
      from = is.from;
      below = omega (arith, len, below);
      row_is = is.row_is ∙ ap (λ (m : ℕ). Int (pos m) ∷ is.cells) (omega arith);
    })

-- ---- calls that follow one another

-- So far these slots were read, and the cursor has the rows that are left.
pub record IsReading (table cursor : ℕ) (old new : View) (slots : List Slot) : Type 0 where
  pub left : List Row
  pub given : new.cursors cursor ≡ Some left
  pub rows_are : old.trees table ≡ rows_from 1 slots ++ left

-- every row is at or after the empty key
pub from_first : (o : Order) (rows : List Row) → from_key o [] rows ≡ rows
from_first o [] = refl
from_first o (row ∷ rows) = refl

-- a fault that no call of the store has made
pub own_cause : (old : View) (P : Type 0) (fault : TableReadFault) → (fault ≡ Failed OutOfMemory) ⊎ (fault ≡ NotSlots)
    → HasReadCause old P fault
own_cause old P fault (inl is) = rw is tt
own_cause old P fault (inr is) = rw is tt
