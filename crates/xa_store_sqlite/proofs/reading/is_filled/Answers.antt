use Rattle.xa_base.proofs.{◌≡◌, ◌≤◌, ◌∙◌, ◌∷◌, [], List, None, Option, Some, ap, arith, inl, inr, ints, length, of_z}
use Rattle.xa_base.proofs.{subst, sym, to_z, to_z-of_z, ℤ, w64, Bor, err_from_is_err_and}
use Rattle.std.specs.Slice.{IsItemAt}
use Rattle.sqlite_disk.specs.Disk.{MoreFaults}
use Rattle.sqlite_value.specs.Order.{Row}
use Rattle.xa_slots.specs.{rows_from}
use Rattle.xa_store_sqlite.specs.declared.fault.StoreOpenFault.{StoreOpenFault}
use Rattle.xa_store_sqlite.specs.declared.fault.Table.TheVariants.{Store}
use Rattle.xa_store_sqlite.specs.{IsOther, StoreIsRefused, store_cells}
use Rattle.xa_store_sqlite.proofs.Branches.{read_some}
use Rattle.xa_store_sqlite.proofs.Changes.{clean_before}
use Rattle.xa_store_sqlite.proofs.Refused.{free_slot, not_other, not_unsaid, one_slot, other_unread, rows_refuse}
use Rattle.xa_store_sqlite.proofs.reading.is_filled.Goals as goal

-- ---- the one slot of the table, as it was read

module _ (slots got : List (Option Row)) (r : Option (Bor (Option Row))) (b : Bor (Option Row)) where
  one_row : (row : Row) (rows : List Row) → got ≡ slots → IsItemAt got 0 r → r ≡ Some b → b.now ≡ Some row
      → length slots ≤ 1 → rows ≡ rows_from 1 slots → rows ≡ rows_from 1 (Some row ∷ [])
  one_row row rows same lookup is held few read =
      read ∙ ap (rows_from 1) (one_slot slots row few (read_some slots got 0 r b same lookup is ∙ held))

-- a free one is of no other form
unsaid : (number : ℤ) (wanted : StoreOpenFault) (rows : List Row) (slots got : List (Option Row))
    (r : Option (Bor (Option Row))) (b : Bor (Option Row)) → got ≡ slots → IsItemAt got 0 r → r ≡ Some b → b.now ≡ None
    → length slots ≤ 1 → rows ≡ rows_from 1 slots → IsOther number rows wanted → ⊥
unsaid number wanted rows slots got r b same lookup is none few read other =
    not_unsaid number wanted rows (read ∙ free_slot slots few (read_some slots got 0 r b same lookup is ∙ none)) other

pub returns-in_err-check_store-in-Some-Some-clause-refused : goal.returns-in_err-check_store-in-Some-Some-clause-refused
returns-in_err-check_store-in-Some-Some-clause-refused g c = λ room clean.
    let v = g.S.Store.view c.args.tables.now.trees in
    let failed = MoreFaults (g.S.Store.faults c.args.tables.now.trees) (g.S.Store.faults c.read.new.tables.trees) in
    let same =
    one_row c.in_ok-slots.slots.items c.deref.result.now c.get.result c.in-Some-Some.field-0 c.in-Some-Some.row _
    c.deref.ensures.value c.get.ensures.lookup c.in-Some-Some.is c.in-Some-Some.field-0-is c.in_ok-slots.ensures.few
    (c.in_ok-slots.ensures.rows clean) in
    let p =
    err_from_is_err_and c.from_residual-in_err-check_store-in-Some-Some.result
    c.from_residual-in_err-check_store-in-Some-Some.ensures.1 in
    let fault = c.in_err-check_store-in-Some-Some.field-0.0 in
    rw (p.1, p.2)
    (subst (λ (n : ℤ). StoreIsRefused n room v failed fault) (to_z-of_z w64 c.args.number (omega (arith, ints)))
    (rows_refuse _ room v.trees v.is_broken failed fault
    (c.in_err-check_store-in-Some-Some.ensures.refused room v.trees same)))

pub returns-in_err-slots-clause-others : goal.returns-in_err-slots-clause-others
returns-in_err-slots-clause-others g c = λ wanted other clean.
    let v = g.S.Store.view c.args.tables.now.trees in
    let failed = MoreFaults (g.S.Store.faults c.args.tables.now.trees) (g.S.Store.faults c.read.new.tables.trees) in
    let p = err_from_is_err_and c.from_residual.result c.from_residual.ensures.1 in
    rw (p.1, p.2)
    (inr (other_unread c.args.number wanted Store (v.trees 3) v.is_broken failed c.in_err-slots.field-0.0 other
    (c.in_err-slots.ensures.refused clean)))

pub returns-in_err-check_store-in-Some-Some-clause-others : goal.returns-in_err-check_store-in-Some-Some-clause-others
returns-in_err-check_store-in-Some-Some-clause-others g c = λ wanted other clean.
    let v = g.S.Store.view c.args.tables.now.trees in
    let same =
    one_row c.in_ok-slots.slots.items c.deref.result.now c.get.result c.in-Some-Some.field-0 c.in-Some-Some.row _
    c.deref.ensures.value c.get.ensures.lookup c.in-Some-Some.is c.in-Some-Some.field-0-is c.in_ok-slots.ensures.few
    (c.in_ok-slots.ensures.rows clean) in
    let number : c.args.number ≡ to_z w64 (of_z w64 c.args.number) =
    sym (to_z-of_z w64 c.args.number (omega (arith, ints))) in
    let here =
    subst (λ (n : ℤ). IsOther n (rows_from 1 (Some c.in-Some-Some.row ∷ [])) wanted) number
    (subst (λ (rows : List Row). IsOther c.args.number rows wanted) same other) in
    let told = c.in_err-check_store-in-Some-Some.ensures.others wanted here in
    let fault : c.in_err-check_store-in-Some-Some.field-0.0 ≡ wanted = cc in
    let p =
    err_from_is_err_and c.from_residual-in_err-check_store-in-Some-Some.result
    c.from_residual-in_err-check_store-in-Some-Some.ensures.1 in
    rw (p.1, p.2) (inl fault)

pub returns-in-Some-Some-clause-others : goal.returns-in-Some-Some-clause-others
returns-in-Some-Some-clause-others g c = λ wanted other clean.
    let number = to_z-of_z w64 c.args.number (omega (arith, ints)) in
    let same =
    one_row c.in_ok-slots.slots.items c.deref.result.now c.get.result c.in-Some-Some.field-0 c.in-Some-Some.row _
    c.deref.ensures.value c.get.ensures.lookup c.in-Some-Some.is c.in-Some-Some.field-0-is c.in_ok-slots.ensures.few
    (c.in_ok-slots.ensures.rows clean) in
    absurd (not_other c.args.number wanted ((g.S.Store.view c.args.tables.now.trees).trees 3)
    (same
    ∙ ap (λ (r : Row). rows_from 1 (Some r ∷ []))
    (c.in_ok-check_store-in-Some-Some.ensures.store ∙ ap (λ (n : ℤ). store_cells n) number)) other)

pub returns-in_err-check_empty-in-Some-None-clause-others : goal.returns-in_err-check_empty-in-Some-None-clause-others
returns-in_err-check_empty-in-Some-None-clause-others g c = λ wanted other clean.
    absurd
    (unsaid c.args.number wanted _ c.in_ok-slots.slots.items c.deref.result.now c.get.result c.in-Some-None.field-0
    c.deref.ensures.value c.get.ensures.lookup c.in-Some-None.is c.in-Some-None.field-0-is c.in_ok-slots.ensures.few
    (c.in_ok-slots.ensures.rows (clean_before g.S.Store.view g.S.Store.faults g.S.Store.recovers g.S.Store.is_shielded _
    c.check_empty.new.tables.trees c.check_empty.new.tables.trees c.check_empty.ensures.quiet clean)) other)

pub returns-in-Some-None-clause-others : goal.returns-in-Some-None-clause-others
returns-in-Some-None-clause-others g c = λ wanted other clean.
    absurd
    (unsaid c.args.number wanted _ c.in_ok-slots.slots.items c.deref.result.now c.get.result c.in-Some-None.field-0
    c.deref.ensures.value c.get.ensures.lookup c.in-Some-None.is c.in-Some-None.field-0-is c.in_ok-slots.ensures.few
    (c.in_ok-slots.ensures.rows (clean_before g.S.Store.view g.S.Store.faults g.S.Store.recovers g.S.Store.is_shielded _
    c.check_empty.new.tables.trees c.check_empty.new.tables.trees c.check_empty.ensures.quiet clean)) other)
