use Rattle.xa_store_sqlite.specs.{IsBranchRow}
use Rattle.xa_store_sqlite.proofs.Refused.{bad_at}
use Rattle.xa_store_sqlite.proofs.reading.branches_of.Goals as goal

pub returns-in-Err-clause-refused : goal.returns-in-Err-clause-refused
returns-in-Err-clause-refused c = λ number all trees same.
    bad_at (λ row. IsBranchRow row → ⊥) (trees 1) c.args.slots.now c.loop-slot.slot c.index-slots-slot.result
    c.in-Some.row same c.loop-slot-test.true
    c.index-slots-slot.is c.in-Some.is c.in-Err.ensures.refused
