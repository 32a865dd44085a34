use Rattle.xa_base.proofs.{one_removed}
use Rattle.xa_words.specs.{tran_eq}
use Rattle.xa_log.proofs.Transactions.{tran_cmp_total, tran_cmp-IsAntisymmetric, tran_eq-by_cmp}
use Rattle.test_log_shared.proofs.counted.CountedLogDecisionLog.forget.Goals as goal

pub returns-clause-forgotten : goal.returns-clause-forgotten
returns-clause-forgotten c =
    let removed =
    one_removed tran_eq tran_cmp_total tran_cmp-IsAntisymmetric tran_eq-by_cmp c.args.self.now.records.entries
    c.remove.new.self.entries c.args.tran.now
    c.remove.ensures.updates.0 in
    λ i. record { records = removed i; failures = c.args.self.now.failures }
