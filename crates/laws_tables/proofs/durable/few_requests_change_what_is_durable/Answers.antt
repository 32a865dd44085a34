use Rattle.laws_tables.proofs.DurableLaw.{branches_law, values_law}
use Rattle.laws_tables.proofs.durable.few_requests_change_what_is_durable.Goals as goal

pub returns-clause-branches : goal.returns-clause-branches
returns-clause-branches c t op x T live n = branches_law t op x T live n

pub returns-clause-values : goal.returns-clause-values
returns-clause-values c t op T n = values_law t op T n
