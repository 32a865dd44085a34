-- The trees of a store's database are tables.
use Rattle.xa_base.proofs.{◌≡◌, ℕ, zero, suc, ◌<◌, List, ap, sym, ◌∙◌, arith, Bool, true, false, ◌&&◌, and_parts, rules}
use Rattle.xa_base.proofs.{subst, slice_index_or}
use Rattle.std.specs.Prelude.{IsTrue}
use Rattle.sqlite_disk.specs.declared.Disk.{Ghosts}
use Rattle.sqlite_store.specs.declared.catalog.Wanted.{Wanted}
use Rattle.sqlite_store.specs.declared.store.FileStore.{FileStore}
use Rattle.sqlite_store.specs.FileStore.{IsReady, schema_of, view}
use Rattle.sqlite_store.specs.Listing.{all_shapes}
use Rattle.sqlite_store.specs.Saved.{kept_schema}
use Rattle.sqlite_trees.specs.declared.store.Shape.{Shape}
use Rattle.sqlite_trees.specs.declared.store.Shape.TheVariants.{Absent, Table}
use Rattle.sqlite_trees.specs.Tree.{Trees}
use Rattle.sqlite_trees.specs.View.{View, IsClean, IsQuiet}
use Rattle.xa_slots.specs.{OnlyReads}
use Rattle.xa_store_sqlite.specs.declared.fault.Table.{Table as Named}
use Rattle.xa_store_sqlite.specs.declared.fault.Table.TheVariants.{Accounts, Branches, Changes, Store}
use Rattle.xa_store_sqlite.specs.{AreTables, IsLaid, table_number}
use Rattle.xa_store_sqlite.proofs.Changes.{clean_before}

shape_there : (schema : List Wanted) → AreTables schema → (t : ℕ) → t < 4 → all_shapes schema t ≡ Table
unfolding all_shapes
shape_there schema are zero below = ap (λ (shapes : List Shape). slice_index_or shapes 0 Absent) are
shape_there schema are (suc zero) below = ap (λ (shapes : List Shape). slice_index_or shapes 1 Absent) are
shape_there schema are (suc (suc zero)) below = ap (λ (shapes : List Shape). slice_index_or shapes 2 Absent) are
shape_there schema are (suc (suc (suc zero))) below = ap (λ (shapes : List Shape). slice_index_or shapes 3 Absent) are
shape_there schema are (suc (suc (suc (suc t)))) below = absurd (omega (arith, below))

pub is_laid : {D : Type 0} {g : Ghosts D} (it : FileStore D g) → IsReady it → AreTables (schema_of it)
    → IsLaid (view it)
is_laid it ready are clean t below = (
  shape_there (schema_of it) are t below,
  ap (λ saved. all_shapes (kept_schema saved (schema_of it)) t) ready.unaltered
      ∙ shape_there (schema_of it) are t below,
)

-- a table of a store is one, by its number
pub table_laid : (v : View) (t : Named) → IsLaid v → IsClean v → v.shape (table_number t) ≡ Table
table_laid v Accounts laid clean = (laid clean 0 (omega arith)).0
table_laid v Branches laid clean = (laid clean 1 (omega arith)).0
table_laid v Changes laid clean = (laid clean 2 (omega arith)).0
table_laid v Store laid clean = (laid clean 3 (omega arith)).0

-- reading leaves them tables
pub laid_on : (old new : View) → (IsClean new → IsClean old) → OnlyReads old new → IsLaid old → IsLaid new
laid_on old new before only laid clean t below =
    let was = laid (before clean) t below in
    (ap (λ (v : View). v.shape t) (only clean) ∙ was.0, ap (λ (v : View). v.committed_shape t) (only clean) ∙ was.1)

pub laid_read : {S : Type 0} (view : S → View) (faults : S → ℕ) (recovers : S → Trees → Type 0) (shielded : S → Type 0)
    (old new : S) → IsQuiet view faults recovers shielded old new → OnlyReads (view old) (view new) → IsLaid (view old)
    → IsLaid (view new)
laid_read view faults recovers shielded old new quiet =
    laid_on (view old) (view new) (clean_before view faults recovers shielded old new new quiet)

pub reads_on : (old mid new : View) → (IsClean new → IsClean mid) → OnlyReads old mid → OnlyReads mid new
    → OnlyReads old new
reads_on old mid new before one two clean =
    two clean ∙ ap (λ (v : View). record v { cursors = new.cursors }) (one (before clean))

-- ---- a file that is opened

is_true : (b : Bool) → b ≡ true → IsTrue b
is_true true e = search rules
is_true false e = let z : false ≡ true = e in cc

pub are_usable : {D : Type 0} (pair it : D × D) (usable : D → Bool) → it ≡ pair
    → (usable pair.0 && usable pair.1) ≡ true
    → IsTrue (usable it.0) × IsTrue (usable it.1)
are_usable pair it usable same both =
    let parts = and_parts (usable pair.0) (usable pair.1) both in
    subst (λ p. IsTrue (usable p.0) × IsTrue (usable p.1)) (sym same)
    (is_true (usable pair.0) parts.0, is_true (usable pair.1) parts.1)

-- ---- a file that was read

pub same_tree : (old mid : View) (j : ℕ) → OnlyReads old mid → IsClean mid → old.trees j ≡ mid.trees j
same_tree old mid j only clean = sym (ap (λ (v : View). v.trees j) (only clean))
