use Rattle.xa_log.proofs.Transactions.{more_logs, no_log, own_log}
use Rattle.xa_log.proofs.laws.several_logs_are_read_as_one.Goals as goal

pub returns-clause-none : goal.returns-clause-none
returns-clause-none c = λ tran. no_log tran

pub returns-clause-more : goal.returns-clause-more
returns-clause-more c = λ first others tran. more_logs first others tran

pub returns-clause-own : goal.returns-clause-own
returns-clause-own c = λ before after own tran none. own_log before after own tran none
