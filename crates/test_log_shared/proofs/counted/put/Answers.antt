use Rattle.xa_base.proofs.{sym, ◌∙◌, at_ok, one_put}
use Rattle.xa_words.specs.{tran_eq}
use Rattle.xa_log.proofs.Transactions.{tran_cmp_total, tran_cmp-IsAntisymmetric, tran_eq-by_cmp}
use Rattle.test_log_shared.proofs.counted.put.Goals as goal

pub returns : goal.returns
returns c t =
    let updates = at_ok c.insert.result _ (sym c.is_ok.ensures.value ∙ t) c.insert.ensures.updates in
    one_put tran_eq tran_cmp_total tran_cmp-IsAntisymmetric tran_eq-by_cmp c.args.records.now.entries
    c.insert.new.self.entries c.args.decision.now.tran
    c.args.decision.now.yes updates.0
