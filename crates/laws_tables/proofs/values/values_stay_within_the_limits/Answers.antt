use Rattle.laws_tables.proofs.LimitLaw.{within_law}
use Rattle.laws_tables.proofs.values.values_stay_within_the_limits.Goals as goal

pub returns : goal.returns
returns c accounts before h k are = within_law accounts before h k are
