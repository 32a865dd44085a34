use Rattle.laws_tables.proofs.WorthLaw.{added_law}
use Rattle.laws_tables.proofs.values.adders_never_vote_read_only.Goals as goal

pub returns : goal.returns
returns c = added_law
