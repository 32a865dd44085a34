use Rattle.xa_base.proofs.{arith}
use Rattle.xa_log_file.proofs.Places.{index_apart}
use Rattle.xa_log_file.proofs.Stands.{forgets_shown}
use Rattle.xa_log_file.proofs.Tables.{records_only, forgets_on_file, forgets_its_own}
use Rattle.xa_log_file.proofs.file_log.FileLogDecisionLog.keep_only.Goals as goal

pub invariant_of-self : goal.invariant_of-self
invariant_of-self g c =
    rw c.keep_only.ensures
    (search (arith, forgets_on_file, forgets_shown, c.args.self.now.ready, c.args.self.now.known))

pub returns-clause-kept : goal.returns-clause-kept
returns-clause-kept g c = search (arith, records_only, c.args.self.now.table.slots.items, c.args.trans.now)

pub returns-clause-forgets : goal.returns-clause-forgets
returns-clause-forgets g c = search (arith, forgets_its_own, index_apart, c.keep_only.ensures)
