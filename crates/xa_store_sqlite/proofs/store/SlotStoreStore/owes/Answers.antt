use Rattle.xa_store_sqlite.proofs.Settled.{owes_nothing}
use Rattle.xa_store_sqlite.proofs.store.SlotStoreStore.owes.Goals as goal

pub returns-else-self-2-clause-durable : goal.returns-else-self-2-clause-durable
returns-else-self-2-clause-durable g c = λ none T knows. owes_nothing _ _ _ _ _ T _ _ _ none knows
