use Rattle.xa_base.proofs.{rules}
use Rattle.xa_tables.proofs.manager.Manager.reserve_reopen.Goals as goal

pub invariant_of-self : goal.invariant_of-self
invariant_of-self c =
    (search rules, search rules, rw c.reserve_reopen.ensures.tables c.self.invariant.2, search rules, search rules)

pub invariant_of-self-2 : goal.invariant_of-self-2
invariant_of-self-2 c =
    (search rules, search rules, rw c.reserve_reopen.ensures.tables c.self.invariant.2, search rules, search rules)
