use Rattle.xa_tables.proofs.SoundLemmas.{sound_gone}
use Rattle.xa_tables.proofs.branch_tables.BranchTables.remove.Goals as goal

pub invariant_of-self : goal.invariant_of-self
invariant_of-self c = sound_gone _ _ _ _ _ _ _ c.remove.ensures.state c.forget.ensures.others c.self.invariant
