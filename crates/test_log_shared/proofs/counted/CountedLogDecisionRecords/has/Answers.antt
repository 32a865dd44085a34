use Rattle.xa_base.proofs.{sym, ◌∙◌, get-lookup}
use Rattle.xa_words.specs.{tran_eq}
use Rattle.xa_log.proofs.Transactions.{tran_cmp_total, tran_cmp-IsAntisymmetric, tran_eq-by_cmp}
use Rattle.test_log_shared.proofs.counted.CountedLogDecisionRecords.has.Goals as goal

pub returns : goal.returns
returns c =
    c.copied.ensures ∙ c.get.ensures.value
    ∙ sym
    (get-lookup tran_eq tran_cmp_total tran_cmp-IsAntisymmetric tran_eq-by_cmp c.args.self.now.records.entries
    c.args.tran.now)
