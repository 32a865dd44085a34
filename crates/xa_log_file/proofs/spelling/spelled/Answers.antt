use Rattle.xa_base.proofs.{arith}
use Rattle.xa_log_file.specs.{spelling}
use Rattle.xa_log_file.proofs.spelling.spelled.Goals as goal

pub returns-clause-bytes : goal.returns-clause-bytes
unfolding spelling
returns-clause-bytes c = search (arith, c.copy_from_slice.ensures.after)
