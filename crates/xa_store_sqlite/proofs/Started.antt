-- Why files that have no row aren't opened.
use Rattle.xa_base.proofs.{◌≡◌, ℕ, ℤ, pos, ◌<◌, ◌≤◌, Bool, true, List, [], ◌∷◌, length, None, Some, refl, sym, subst}
use Rattle.xa_base.proofs.{◌∙◌, arith, inl, inr, Contains}
use Rattle.std.proofs.lemmas.Grind.{not_there}
use Rattle.sqlite_value.specs.Order.{Row}
use Rattle.sqlite_trees.specs.Tree.{Trees}
use Rattle.sqlite_trees.specs.declared.error.StoreError.{StoreError}
use Rattle.sqlite_trees.specs.declared.error.StoreError.TheVariants as error
use Rattle.xa_base.specs.declared.limits.TheConstants.{MOST_KEYS}
use Rattle.xa_slots.specs.{row_of, rows_from}
use Rattle.xa_words.specs.{are_accounts}
use Rattle.xa_tables.specs.{fault_of, stored}
use Rattle.xa_store_sqlite.specs.declared.fault.Table.TheVariants.{Accounts, Branches, Changes, Store}
use Rattle.xa_store_sqlite.specs.declared.fault.RowFault.TheVariants.{Form, Name, Limit, State, Unknown, Gap}
use Rattle.xa_store_sqlite.specs.declared.fault.StoreOpenFault.{StoreOpenFault}
use Rattle.xa_store_sqlite.specs.declared.fault.StoreOpenFault.TheVariants.{NoMemory, Failed, NoRoom, NotADatabase}
use Rattle.xa_store_sqlite.specs.declared.fault.StoreOpenFault.TheVariants.{OtherTables, Damaged, NotAStore}
use Rattle.xa_store_sqlite.specs.declared.fault.StoreOpenFault.TheVariants.{OtherVersion, OtherNumber, TooMany, BadRow}
use Rattle.xa_store_sqlite.specs.declared.fault.StoreOpenFault.TheVariants.{NotRestored}
use Rattle.xa_store_sqlite.specs.declared.mirror.TheConstants.{MOST_BRANCHES}
use Rattle.xa_store_sqlite.specs.{HasCells, IsRefusedFor, fault_of_error, is_of_device, store_row}
use Rattle.xa_store_sqlite.specs.Files.{AreEmpty, AreOpenedAs, Bytes, HasNoRow}
use Rattle.xa_store_sqlite.proofs.OfFiles.{not_unstarted}
use Rattle.xa_store_sqlite.proofs.Opened.{trees_once}
use Rattle.xa_store_sqlite.proofs.Refused.{none_fewer}

-- they are opened with empty trees
pub empty_opened : (files : Bytes) (trees : Trees) → HasNoRow files → AreOpenedAs files trees → AreEmpty trees
empty_opened files trees none (inr made) = made.1
empty_opened files trees (inl begun) (inl read) = absurd (not_there begun (λ b. not_unstarted files trees read b))
empty_opened files trees (inr bare) (inl read) = subst AreEmpty (trees_once files bare.0 trees bare.1 read) bare.2

-- a manager can be made of accounts that may be declared
pub faultless_alone : (accounts : List (List ℕ × ℕ)) → are_accounts accounts ≡ true
    → fault_of (stored accounts [] []) ≡ None
faultless_alone accounts are = rw are refl

-- tables that have no row aren't refused for their rows
module _ (number : ℤ) (room : ℕ) (trees : Trees) (empty : AreEmpty trees) (roomy : room ≤ MOST_BRANCHES) where
  no_cells : (t : ℕ) → t < 4 → (slot : ℕ) (cells : Row) → HasCells (trees t) slot cells → ⊥
  no_cells t below slot cells there =
      let at = subst (λ (rows : List Row). Contains rows (row_of slot cells)) (empty t below) there in
      omega (arith, at.1)

  pub bare_device : (is_broken : Bool) (failed : Type 0) (f : StoreOpenFault)
      → IsRefusedFor number room trees is_broken failed f → is_of_device f ≡ true
  bare_device is_broken failed NoMemory why = refl
  bare_device is_broken failed Failed why = refl
  bare_device is_broken failed NoRoom why = refl
  bare_device is_broken failed NotADatabase why = absurd why
  bare_device is_broken failed OtherTables why = absurd why
  bare_device is_broken failed Damaged why = refl
  bare_device is_broken failed NotAStore why = absurd (why.has_rows (empty why.table (omega (arith, why.below))))
  bare_device is_broken failed OtherVersion why =
      let z : [] ≡ rows_from 1 (Some (store_row why.version why.number) ∷ []) =
      sym (empty 3 (omega arith)) ∙ why.rows_are in
      cc
  bare_device is_broken failed OtherNumber why =
      let z : [] ≡ rows_from 1 (Some (store_row (pos 1) why.number) ∷ []) =
      sym (empty 3 (omega arith)) ∙ why.rows_are in
      cc
  bare_device is_broken failed (TooMany Accounts) why =
      absurd (none_fewer MOST_KEYS (trees 0) why [] (omega arith) (empty 0 (omega arith)))
  bare_device is_broken failed (TooMany Branches) why = absurd (why [] (omega (arith, roomy)) (empty 1 (omega arith)))
  bare_device is_broken failed (TooMany Changes) why =
      absurd (none_fewer (length (trees 0)) (trees 2) why [] (omega arith) (empty 2 (omega arith)))
  bare_device is_broken failed (TooMany Store) why =
      absurd (none_fewer 1 (trees 3) why [] (omega arith) (empty 3 (omega arith)))
  bare_device is_broken failed (BadRow Accounts slot Gap) why =
      absurd (no_cells 0 (omega arith) slot why.cells why.there)
  bare_device is_broken failed (BadRow Accounts slot Form) why =
      absurd (no_cells 0 (omega arith) slot why.cells why.there)
  bare_device is_broken failed (BadRow Accounts slot Name) why =
      absurd (no_cells 0 (omega arith) slot why.cells why.there)
  bare_device is_broken failed (BadRow Accounts slot Limit) why =
      absurd (no_cells 0 (omega arith) slot why.cells why.there)
  bare_device is_broken failed (BadRow Accounts slot State) why =
      absurd (no_cells 0 (omega arith) slot why.cells why.there)
  bare_device is_broken failed (BadRow Accounts slot Unknown) why =
      absurd (no_cells 0 (omega arith) slot why.cells why.there)
  bare_device is_broken failed (BadRow Branches slot f) why = absurd (no_cells 1 (omega arith) slot why.cells why.there)
  bare_device is_broken failed (BadRow Changes slot f) why = absurd (no_cells 2 (omega arith) slot why.cells why.there)
  bare_device is_broken failed (BadRow Store slot f) why = absurd (no_cells 3 (omega arith) slot why.cells why.there)
  bare_device is_broken failed (NotRestored f) why = absurd why
