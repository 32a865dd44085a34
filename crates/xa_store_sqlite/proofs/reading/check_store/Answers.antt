use Rattle.xa_base.proofs.{Some, [], arith, refl, ◌∷◌}
use Rattle.xa_store_sqlite.specs.{IsStoreRow}
use Rattle.xa_store_sqlite.proofs.Refused.{bad_at, other_row}
use Rattle.xa_store_sqlite.proofs.reading.check_store.Goals as goal

pub returns-in-Err-clause-refused : goal.returns-in-Err-clause-refused
returns-in-Err-clause-refused c = λ room trees same.
    let row = c.args.row.now in
    bad_at (λ r. IsStoreRow r → ⊥) (trees 3) (Some row ∷ []) 0 (Some row) row same (omega arith) refl refl
    (λ is. c.in-Err.ensures.refused is.version is.number is.row_is)

pub returns-in-Err-clause-others : goal.returns-in-Err-clause-others
returns-in-Err-clause-others c = λ wanted is.
    let r = other_row c.args.number wanted c.args.row.now is in
    absurd (c.in-Err.ensures.refused r.version r.number r.row_is)
