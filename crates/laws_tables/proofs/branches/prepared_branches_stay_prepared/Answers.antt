use Rattle.laws_tables.proofs.PreparedLaw.{prepared_law}
use Rattle.laws_tables.proofs.branches.prepared_branches_stay_prepared.Goals as goal

pub returns : goal.returns
returns c h g x T o p n = prepared_law h g x T o p n
