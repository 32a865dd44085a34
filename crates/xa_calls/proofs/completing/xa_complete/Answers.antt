use Rattle.xa_calls.proofs.Effects.{completes_come, comes_keep}
use Rattle.xa_calls.proofs.completing.xa_complete.Goals as goal

pub returns-clause-kept : goal.returns-clause-kept
returns-clause-kept g c =
    let of_flags = rw c.check_flags-mode.ensures at c.complete_by-collected.ensures.completes in
    comes_keep _ _ _
    (completes_come c.args.flags c.args.desk.now c.number_in-number.result c.args.manager
    c.complete_by-collected.new.desk c.complete_by-collected.result of_flags)
