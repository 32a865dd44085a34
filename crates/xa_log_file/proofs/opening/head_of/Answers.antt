use Rattle.xa_base.proofs.{rules}
use Rattle.xa_log_file.specs.{head}
use Rattle.xa_log_file.proofs.opening.head_of.Goals as goal

pub returns : goal.returns
unfolding head
returns c = search rules
