use Rattle.xa_base.proofs.{[], ◌∷◌, ◌++◌, ap, sym, ◌∙◌}
use Rattle.xa_tables.specs.{tables_after}
use Rattle.xa_store_memory.proofs.Continued.{one_later}
use Rattle.xa_store_memory.proofs.memory.MemoryStoreStore.tell.Goals as goal

pub returns-then-fits-clause-told : goal.returns-then-fits-clause-told
returns-then-fits-clause-told c = λ T live knows coded well.
    let r = c.args.request.now in
    let later = c.put.new.told.items in
    one_later c.args.self.now.told later r c.args.self.now.settled T
    (c.put.ensures.items ∙ ap (λ s. s.told ++ r ∷ []) c.self.view_is)
    (knows (sym (ap (λ s. s.is_failed) c.self.view_is) ∙ well))
    ∙ ap (λ s. tables_after later s.settled) (sym c.self.view_is)
