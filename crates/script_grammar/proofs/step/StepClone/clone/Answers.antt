use Rattle.xa_base.proofs.{◌∙◌, rules}
use Rattle.script_grammar.proofs.StepLemmas.{step_same}
use Rattle.script_grammar.proofs.step.StepClone.clone.Goals as goal

pub returns : goal.returns
returns g c =
    record {
      cases = c.map.ensures (λ x. x) (λ t. t) (λ k. k) (search rules) (search rules) (search rules)
          ∙ step_same c.args.self.now;
    }
