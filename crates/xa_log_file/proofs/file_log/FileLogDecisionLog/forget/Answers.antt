use Rattle.xa_base.proofs.{arith}
use Rattle.xa_log_file.proofs.Places.{index_apart}
use Rattle.xa_log_file.proofs.Stands.{forgets_shown}
use Rattle.xa_log_file.proofs.Tables.{records_without, forgets_on_file, forgets_its_own}
use Rattle.xa_log_file.proofs.file_log.FileLogDecisionLog.forget.Goals as goal

pub invariant_of-self : goal.invariant_of-self
invariant_of-self g c =
    rw c.forget.ensures (search (arith, forgets_on_file, forgets_shown, c.args.self.now.ready, c.args.self.now.known))

pub returns-clause-forgotten : goal.returns-clause-forgotten
returns-clause-forgotten g c = search (arith, records_without, c.args.self.now.table.slots.items, c.args.tran.now)

pub returns-clause-forgets : goal.returns-clause-forgets
returns-clause-forgets g c = search (arith, forgets_its_own, index_apart, c.forget.ensures)
