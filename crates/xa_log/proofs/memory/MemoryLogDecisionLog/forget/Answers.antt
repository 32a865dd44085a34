use Rattle.xa_base.proofs.{ap, ◌∙◌, one_removed}
use Rattle.std.specs.FinMap as map
use Rattle.xa_words.specs.{tran_eq}
use Rattle.xa_log.proofs.Transactions.{tran_cmp_total, tran_cmp-IsAntisymmetric, tran_eq-by_cmp}
use Rattle.xa_log.proofs.Kept.{room_stays}
use Rattle.xa_log.proofs.memory.MemoryLogDecisionLog.forget.Goals as goal

pub returns-clause-forgotten : goal.returns-clause-forgotten
returns-clause-forgotten c =
    let removed = one_removed tran_eq tran_cmp_total tran_cmp-IsAntisymmetric tran_eq-by_cmp
    c.self.inside.records.entries
    c.remove.new.self.entries c.args.tran.now c.remove.ensures.updates.0
    ∙ ap (λ b. map.remove b.state.records c.args.tran.now) c.self.view_is in
    λ i. record { records = removed i; failures = (c.self.view_is i).state.failures }

pub returns-clause-forgets : goal.returns-clause-forgets
returns-clause-forgets c =
    room_stays c.self.inside.is_reserved _ _ _ c.remove.ensures.spare (ap (λ b. b.room) c.self.view_is)
