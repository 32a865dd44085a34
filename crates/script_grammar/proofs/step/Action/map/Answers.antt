use Rattle.xa_base.proofs.{refl, sym, ap, ◌∙◌}
use Rattle.script_grammar.specs.declared.step.Action.TheVariants as action
use Rattle.script_grammar.specs.{action_with}
use Rattle.script_grammar.proofs.step.Action.map.Goals as goal

pub returns-in-CommitAll : goal.returns-in-CommitAll
returns-in-CommitAll g c = λ f h k same same_tran same_key.
    ap (λ t. action.CommitAll
    (record { tran = t; managers = c.in-CommitAll.commit.managers; death = c.in-CommitAll.commit.death }))
    (same_tran c.in-CommitAll.commit.tran c.tran.result (_, c.tran.ensures, refl))
    ∙ ap (action_with f h k) (sym c.in-CommitAll.is)
