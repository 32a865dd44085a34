use Rattle.xa_base.proofs.{ap, rules, sym, refl, ◌∙◌}
use Rattle.xa_tables.specs.{reopened}
use Rattle.xa_store_memory.proofs.memory.MemoryStoreStore.reopened.Goals as goal

pub returns-clause-known : goal.returns-clause-known
returns-clause-known c = λ T knows durable well.
    sym (durable (reopened c.args.self.settled) refl) ∙ ap reopened (sym (ap (λ s. s.settled) c.self.view_is))
    ∙ search rules
