use Rattle.xa_tables.specs.{tables_of}
use Rattle.xa_tables.proofs.Reopening.{sound_reopened}
use Rattle.xa_tables.proofs.branch_tables.BranchTables.reopen.Goals as goal

pub invariant_of-self : goal.invariant_of-self
invariant_of-self c =
    rw (c.retain_left.ensures.states, c.retain_prepared.ensures.sums, c.retain_prepared.ensures.values)
    (sound_reopened
    (tables_of c.self.inside.threads c.self.inside.branches c.self.inside.accounts c.self.inside.is_shut)
    c.self.invariant)
