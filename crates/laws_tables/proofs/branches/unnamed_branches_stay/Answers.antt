use Rattle.laws_tables.proofs.UnnamedLaw.{unnamed_law}
use Rattle.laws_tables.proofs.branches.unnamed_branches_stay.Goals as goal

pub returns : goal.returns
returns c h g x T nobody n = unnamed_law h g x T nobody n
