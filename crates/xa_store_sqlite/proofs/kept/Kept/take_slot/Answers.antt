use Rattle.xa_base.proofs.{◌∙◌}
use Rattle.xa_store_sqlite.proofs.Branches.{read_some}
use Rattle.xa_store_sqlite.proofs.kept.Kept.take_slot.Goals as goal

pub returns-in-Ok-None-clause-free : goal.returns-in-Ok-None-clause-free
returns-in-Ok-None-clause-free g c =
    read_some c.args.self.now.mirror.branches.items c.deref.result.now c.in-Some.slot c.get.result
    c.in-Some-None.field-0 c.deref.ensures.value c.get.ensures.lookup
    c.in-Some-None.is ∙ c.in-Some-None.field-0-is
