use Rattle.xa_base.proofs.{◌∙◌, ap}
use Rattle.xa_words.specs.{with_manager}
use Rattle.xa_words.proofs.ManagerSets.{set_with}
use Rattle.xa_words.proofs.manager_set.ManagerSet.add.Goals as goal

pub returns : goal.returns
returns c =
    set_with c.self.inside.places c.args.manager c.self.told c.requires.0
    ∙ ap (with_manager c.args.manager) c.self.view_is
