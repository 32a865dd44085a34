use Rattle.xa_base.proofs.{ap, ◌∙◌, sym}
use Rattle.xa_store_sqlite.specs.{is_of_slot}
use Rattle.xa_store_sqlite.proofs.Branches.{read_none, read_some}
use Rattle.xa_store_sqlite.proofs.kept.Kept.is_of.Goals as goal

pub returns-in-None : goal.returns-in-None
returns-in-None g c =
    ap (is_of_slot c.args.slot)
    (sym (read_none c.args.self.now.mirror.changes.items c.deref.result.now c.args.place c.get.result
    c.deref.ensures.value c.get.ensures.lookup c.in-None.is))

pub returns-in-Some-None : goal.returns-in-Some-None
returns-in-Some-None g c =
    ap (is_of_slot c.args.slot)
    (sym (read_some c.args.self.now.mirror.changes.items c.deref.result.now c.args.place c.get.result
    c.in-Some-None.field-0 c.deref.ensures.value c.get.ensures.lookup
    c.in-Some-None.is ∙ c.in-Some-None.field-0-is))

pub returns-in-Some-Some : goal.returns-in-Some-Some
returns-in-Some-Some g c =
    ap (is_of_slot c.args.slot)
    (sym (read_some c.args.self.now.mirror.changes.items c.deref.result.now c.args.place c.get.result
    c.in-Some-Some.field-0 c.deref.ensures.value c.get.ensures.lookup
    c.in-Some-Some.is ∙ c.in-Some-Some.field-0-is))
