use Rattle.xa_base.proofs.{ap, ◌∙◌, list_any}
use Rattle.script_grammar.specs.{is_reopen}
use Rattle.script_grammar.proofs.StepLemmas.{any_reopens}
use Rattle.script_grammar.proofs.steps.Steps.any_reopens.Goals as goal

pub returns : goal.returns
returns c =
    c.any_reopens.ensures
    ∙ ap (list_any is_reopen) c.deref.ensures.value
    ∙ any_reopens c.self.inside.names.items c.self.inside.keys.items c.self.inside.kept.items
    ∙ ap (list_any is_reopen) c.self.view_is
