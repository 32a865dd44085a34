use Rattle.xa_base.proofs.{◌&&◌, ◌||◌, sym, ◌∙◌}
use Rattle.xa_words.specs.{is_in, set_of}
use Rattle.script_grammar.specs.{are_rising, is_named}
use Rattle.script_grammar.proofs.CommitLemmas.{if_rising, taken}
use Rattle.script_grammar.proofs.named.Named.add.Goals as goal

pub returns-then-self : goal.returns-then-self
returns-then-self c = λ ms.
    (λ i. if_rising (c.if-self.true i && are_rising c.args.self.now.count c.args.manager ms)
    (set_of (λ k. is_in (c.add.ensures i) k || is_named ms k)))
    ∙ taken c.args.self.now c.args.manager ms (sym c.may_add-self.ensures ∙ c.if-self.true)
