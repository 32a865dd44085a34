use Rattle.laws_fates.proofs.FateLaw.{reopened_law, over_law}
use Rattle.laws_fates.proofs.tables_tell_the_fates.Goals as goal

pub returns-clause-reopened : goal.returns-clause-reopened
returns-clause-reopened c x f T w = reopened_law x f T w

pub returns-clause-over : goal.returns-clause-over
returns-clause-over c before h x T n = over_law before h x T n
