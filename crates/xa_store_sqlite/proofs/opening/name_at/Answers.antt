use Rattle.xa_base.proofs.{None, Some, refl, ◌∙◌}
use Rattle.xa_store_sqlite.proofs.Branches.{read_none, read_some}
use Rattle.xa_store_sqlite.proofs.LeftOver.{name_from}
use Rattle.xa_store_sqlite.proofs.opening.name_at.Goals as goal

pub returns-in-None : goal.returns-in-None
returns-in-None c =
    let bs = c.args.branches.now in
    name_from bs c.args.slot None (read_none bs bs c.args.slot c.get.result refl c.get.ensures.lookup c.in-None.is)

pub returns-in-Some-None : goal.returns-in-Some-None
returns-in-Some-None c =
    let bs = c.args.branches.now in
    name_from bs c.args.slot None
    (read_some bs bs c.args.slot c.get.result c.in-Some-None.field-0 refl c.get.ensures.lookup c.in-Some-None.is
    ∙ c.in-Some-None.field-0-is)

pub returns-in-Some-Some : goal.returns-in-Some-Some
returns-in-Some-Some c =
    let bs = c.args.branches.now in
    name_from bs c.args.slot (Some c.in-Some-Some.branch)
    (read_some bs bs c.args.slot c.get.result c.in-Some-Some.field-0 refl c.get.ensures.lookup c.in-Some-Some.is
    ∙ c.in-Some-Some.field-0-is)
