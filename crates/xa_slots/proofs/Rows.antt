-- What setting and clearing a slot does to the rows.
use Rattle.std.proofs.Common.{◌≡◌, ℕ, zero, suc, ◌+◌, ◌<◌, Bool, true, false, pos, List, [], ◌∷◌, length, slice_set}
use Rattle.std.proofs.Common.{None, Some, refl, ap, subst, if◌then◌else◌, ◌==◌, ◌∙◌, arith, Less, Equal, Greater}
use Rattle.std.proofs.lemmas.Bool.Decides.{nat_tests}
use Rattle.std.proofs.lemmas.Int.{ints}
use Rattle.sqlite_value.specs.declared.value.Value.TheVariants.{Int}
use Rattle.sqlite_value.specs.Order.{Row, value_cmp}
use Rattle.sqlite_value.proofs.OrderLemmas.{value_cmp-Int}
use Rattle.sqlite_trees.specs.Tree.{Trees, put_row, without_rowid, with_tree}
use Rattle.xa_slots.specs.{HasSlots, Slot, SlotsOfTables, rows_from, with_slot}

lower : (m n : ℕ) → m < n → value_cmp (Int (pos m)) (Int (pos n)) ≡ Less
lower m n h = value_cmp-Int (pos m) (pos n) ∙ grind (arith, ints, nat_tests)

same : (m : ℕ) → value_cmp (Int (pos m)) (Int (pos m)) ≡ Equal
same m = value_cmp-Int (pos m) (pos m) ∙ grind (arith, ints, nat_tests)

higher : (m n : ℕ) → n < m → value_cmp (Int (pos m)) (Int (pos n)) ≡ Greater
higher m n h = value_cmp-Int (pos m) (pos n) ∙ grind (arith, ints, nat_tests)

-- a row below all others stands before them
pub put_front : (m n : ℕ) (cells : Row) (slots : List Slot) → m < n
    → put_row (Int (pos m) ∷ cells) (rows_from n slots) ≡ (Int (pos m) ∷ cells) ∷ rows_from n slots
put_front m n cells [] h = refl
put_front m n cells (None ∷ slots) h = put_front m (suc n) cells slots (omega arith)
put_front m n cells (Some own ∷ slots) h = rw (higher n m h) refl

-- the same number
no_more : (n : ℕ) → n ≡ n + 0
no_more n = omega arith

pub put_slot : (n k : ℕ) (cells : Row) (slots : List Slot) → k < length slots
    → put_row (Int (pos (n + k)) ∷ cells) (rows_from n slots) ≡ rows_from n (slice_set slots k (Some cells))
put_slot n k cells [] h = absurd (omega arith)
put_slot n zero cells (None ∷ slots) h =
    subst
    (λ m. put_row (Int (pos m) ∷ cells) (rows_from (suc n) slots) ≡ (Int (pos n) ∷ cells) ∷ rows_from (suc n) slots)
    (no_more n) (put_front n (suc n) cells slots (omega arith))
put_slot n zero cells (Some own ∷ slots) h =
    subst
    (λ m. put_row (Int (pos m) ∷ cells) ((Int (pos n) ∷ own) ∷ rows_from (suc n) slots) ≡ (Int (pos n) ∷ cells)
    ∷ rows_from (suc n) slots) (no_more n) (rw (same n) refl)
put_slot n (suc k) cells (None ∷ slots) h =
    subst
    (λ m. put_row (Int (pos m) ∷ cells) (rows_from (suc n) slots) ≡ rows_from (suc n)
    (slice_set slots k (Some cells))) (omega arith) (put_slot (suc n) k cells slots (omega arith))
put_slot n (suc k) cells (Some own ∷ slots) h =
    rw (lower n (n + suc k) (omega arith)) (ap (λ (rows : List Row). (Int (pos n) ∷ own) ∷ rows)
    (subst
    (λ m. put_row (Int (pos m) ∷ cells) (rows_from (suc n) slots) ≡ rows_from (suc n)
    (slice_set slots k (Some cells))) (omega arith) (put_slot (suc n) k cells slots (omega arith))))

-- no row has a rowid below the first
pub keep_above : (m n : ℕ) (slots : List Slot) → m < n → without_rowid (pos m) (rows_from n slots) ≡ rows_from n slots
keep_above m n [] h = refl
keep_above m n (None ∷ slots) h = keep_above m (suc n) slots (omega arith)
keep_above m n (Some own ∷ slots) h =
    rw (higher n m h) (ap (λ (rows : List Row). (Int (pos n) ∷ own) ∷ rows) (keep_above m (suc n) slots (omega arith)))

pub clear_slot : (n k : ℕ) (slots : List Slot) → k < length slots
    → without_rowid (pos (n + k)) (rows_from n slots) ≡ rows_from n (slice_set slots k None)
clear_slot n k [] h = absurd (omega arith)
clear_slot n zero (None ∷ slots) h =
    subst (λ m. without_rowid (pos m) (rows_from (suc n) slots) ≡ rows_from (suc n) slots) (no_more n)
    (keep_above n (suc n) slots (omega arith))
clear_slot n zero (Some own ∷ slots) h =
    subst (λ m. without_rowid (pos m) ((Int (pos n) ∷ own) ∷ rows_from (suc n) slots) ≡ rows_from (suc n) slots)
    (no_more n) (rw (same n) (keep_above n (suc n) slots (omega arith)))
clear_slot n (suc k) (None ∷ slots) h =
    subst (λ m. without_rowid (pos m) (rows_from (suc n) slots) ≡ rows_from (suc n) (slice_set slots k None))
    (omega arith) (clear_slot (suc n) k slots (omega arith))
clear_slot n (suc k) (Some own ∷ slots) h =
    rw (lower n (n + suc k) (omega arith)) (ap (λ (rows : List Row). (Int (pos n) ∷ own) ∷ rows)
    (subst (λ m. without_rowid (pos m) (rows_from (suc n) slots) ≡ rows_from (suc n) (slice_set slots k None))
    (omega arith) (clear_slot (suc n) k slots (omega arith))))

-- ---- all tables

module _ (many : ℕ) (all : SlotsOfTables) (trees : Trees) (has : HasSlots many all trees) (table k : ℕ)
    (among : table < many)
    (within : k < length (all table)) where
  -- an edit of the tree of the table is one of its slot
  edits : (slot : Slot) (edit : List Row → List Row)
      → edit (rows_from 1 (all table)) ≡ rows_from 1 (slice_set (all table) k slot)
      → HasSlots many (with_slot all table k slot) (with_tree trees table (edit (trees table)))
  edits slot edit is t below = go (t == table)
    where
      go : (b : Bool)
          → (if b then edit (trees table) else trees t) ≡ rows_from 1
          (if b then slice_set (all table) k slot else all t)
      go true = ap edit (has table among) ∙ is
      go false = has t below

  pub sets : (m : ℕ) (cells : Row) → m ≡ k + 1
      → HasSlots many (with_slot all table k (Some cells))
      (with_tree trees table (put_row (Int (pos m) ∷ cells) (trees table)))
  sets m cells e =
      edits (Some cells) (put_row (Int (pos m) ∷ cells))
      (subst
      (λ (i : ℕ). put_row (Int (pos i) ∷ cells) (rows_from 1 (all table)) ≡ rows_from 1
      (slice_set (all table) k (Some cells))) (omega arith) (put_slot 1 k cells (all table) within))

  pub clears : (m : ℕ) → m ≡ k + 1
      → HasSlots many (with_slot all table k None) (with_tree trees table (without_rowid (pos m) (trees table)))
  clears m e =
      edits None (without_rowid (pos m))
      (subst (λ (i : ℕ). without_rowid (pos i) (rows_from 1 (all table)) ≡ rows_from 1 (slice_set (all table) k None))
      (omega arith) (clear_slot 1 k (all table) within))
