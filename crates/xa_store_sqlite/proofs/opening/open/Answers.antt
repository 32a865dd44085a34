use Rattle.xa_base.proofs.{◌≡◌, arith, err_from_is_err_and, inl, inr, ints, of_z, subst, sym, to_z, to_z-of_z, ◌+◌, ℤ}
use Rattle.xa_base.proofs.{w64}
use Rattle.std.specs.Prelude.{◌/◌}
use Rattle.xa_store_sqlite.specs.{MayBeOfStore}
use Rattle.xa_store_sqlite.proofs.Device.{rows_opened}
use Rattle.xa_store_sqlite.proofs.Fresh.{fresh_from}
use Rattle.xa_store_sqlite.proofs.OfFiles.{of_files, renumbered}
use Rattle.xa_store_sqlite.proofs.Opened.{always, store_clean}
use Rattle.xa_store_sqlite.proofs.Started.{empty_opened}
use Rattle.xa_store_sqlite.proofs.opening.open.Goals as goal

pub returns-clause-knows : goal.returns-clause-knows
returns-clause-knows g c =
    c.in_ok-store.ensures.knows c.in_ok-made.made.0.tables
    (c.in_ok-made.ensures.knows (fresh_from c.in_ok-tables.tables.trees c.in_ok-tables.ensures.ready))

pub returns-clause-durable : goal.returns-clause-durable
returns-clause-durable g c =
    c.in_ok-store.ensures.durable c.in_ok-made.made.0.tables
    (c.in_ok-made.ensures.knows (fresh_from c.in_ok-tables.tables.trees c.in_ok-tables.ensures.ready))

pub returns-clause-left : goal.returns-clause-left
returns-clause-left g c =
    c.in_ok-store.ensures.left c.in_ok-made.made.0.tables
    (c.in_ok-made.ensures.knows (fresh_from c.in_ok-tables.tables.trees c.in_ok-tables.ensures.ready))

pub returns-clause-from : goal.returns-clause-from
returns-clause-from g c = λ synced.
    let told : to_z w64 (of_z w64 c.args.number) ≡ c.args.number = to_z-of_z w64 c.args.number (omega (arith, ints)) in
    of_files _ c.args.number c.args.accounts.now _ c.in_ok-made.made.0.tables (c.in_ok-tables.ensures.opened synced)
    (renumbered told (c.in_ok-made.ensures.from (store_clean (λ d. always))))

pub returns-in_err-tables-clause-whole : goal.returns-in_err-tables-clause-whole
returns-in_err-tables-clause-whole g c = λ synced trees image has rows whole none.
    let p = err_from_is_err_and c.from_residual.result c.from_residual.ensures.1 in
    rw (p.1, p.2) (c.in_err-tables.ensures.device synced trees has)

pub returns-in_err-made-clause-whole : goal.returns-in_err-made-clause-whole
returns-in_err-made-clause-whole g c = λ synced trees image has rows whole none.
    let told : c.args.number ≡ to_z w64 (of_z w64 c.args.number) =
    sym (to_z-of_z w64 c.args.number (omega (arith, ints))) in
    let p = err_from_is_err_and c.from_residual-in_err-made.result c.from_residual-in_err-made.ensures.1 in
    rw (p.1, p.2)
    (c.in_err-made.ensures.whole (store_clean (λ d. always)) image
    (rows_opened _ trees _ image has rows (c.in_ok-tables.ensures.opened synced))
    (subst (λ (n : ℤ). MayBeOfStore n ((c.args.room + 1) / 2) image) told whole) none)

pub returns-in_err-tables-clause-new : goal.returns-in_err-tables-clause-new
returns-in_err-tables-clause-new g c = λ synced none are.
    let p = err_from_is_err_and c.from_residual.result c.from_residual.ensures.1 in
    rw (p.1, p.2)
    (elim none [
      | inl begun ↦ c.in_err-tables.ensures.made begun
      | inr bare ↦ c.in_err-tables.ensures.device synced bare.0
          bare.1
    ])

pub returns-in_err-made-clause-new : goal.returns-in_err-made-clause-new
returns-in_err-made-clause-new g c = λ synced none are.
    let p = err_from_is_err_and c.from_residual-in_err-made.result c.from_residual-in_err-made.ensures.1 in
    rw (p.1, p.2)
    (c.in_err-made.ensures.new (store_clean (λ d. always))
    (empty_opened _ _ none (c.in_ok-tables.ensures.opened synced)) are)
