use Rattle.xa_base.proofs.{rules}
use Rattle.std.proofs.lemmas.Fn.{filter_same}
use Rattle.xa_tables.proofs.accounts.keep_held.Goals as goal

pub returns-clause-places : goal.returns-clause-places
returns-clause-places c = filter_same _ _ _ (λ x b f' k. search rules) _ _ c.retain.ensures.filtered
