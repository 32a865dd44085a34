use Rattle.xa_base.proofs.{arith}
use Rattle.laws_commit.proofs.OneOutcome.{abort_sends_no_commit, failed_append_aborts}
use Rattle.laws_commit.proofs.commits.failed_append.Goals as goal

pub returns : goal.returns
returns c tran bs old new log later done call wanted off = search (arith, abort_sends_no_commit, failed_append_aborts)
