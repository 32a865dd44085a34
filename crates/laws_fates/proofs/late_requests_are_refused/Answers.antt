use Rattle.xa_tables.specs.{parted}
use Rattle.laws_fates.proofs.late_requests_are_refused.Goals as goal

pub returns-clause-parted : goal.returns-clause-parted
returns-clause-parted c h = parted h
