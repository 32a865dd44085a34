use Rattle.xa_base.proofs.{ap, sym, ◌∙◌, get-lookup}
use Rattle.std.specs.FinMap as map
use Rattle.xa_words.specs.{tran_eq}
use Rattle.xa_log.proofs.Transactions.{tran_cmp_total, tran_cmp-IsAntisymmetric, tran_eq-by_cmp}
use Rattle.xa_log.proofs.memory.MemoryLogDecisionRecords.has.Goals as goal

pub returns : goal.returns
returns c =
    c.copied.ensures ∙ c.get.ensures.value
    ∙ sym
    (get-lookup tran_eq tran_cmp_total tran_cmp-IsAntisymmetric tran_eq-by_cmp c.self.inside.records.entries
    c.args.tran.now)
    ∙ ap (λ b. map.get b.state.records c.args.tran.now) c.self.view_is
