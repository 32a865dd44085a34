use Rattle.xa_base.proofs.{is_some, ap, sym, ◌∙◌, drop_all, drop_more}
use Rattle.xa_log.proofs.Transactions.{first_counts, no_log, others_count}
use Rattle.xa_log.proofs.several.RefSliceDecisionRecords.has.Goals as goal

pub returns-then-is_some : goal.returns-then-is_some
returns-then-is_some g c =
    let found = ap is_some (sym c.has-found.ensures) ∙ sym c.is_some.ensures ∙ c.if-is_some.true in
    c.has-found.ensures
    ∙ sym
    (c.loop-log.invariant
    ∙ (rw (drop_more _ _ c.log-item.result c.loop-log-test.true, ← c.log-item.is) (first_counts _ _ _ found)))

pub loop-log-preserved : goal.loop-log-preserved
loop-log-preserved g c =
    let missed = ap is_some (sym c.has-found.ensures) ∙ sym c.is_some.ensures ∙ c.if-is_some.false in
    c.loop-log.invariant
    ∙ (rw (drop_more _ _ c.log-item.result c.loop-log-test.true, ← c.log-item.is) (others_count _ _ _ missed))

pub returns : goal.returns
returns g c = sym (c.loop-log.invariant ∙ (rw (drop_all _ _ c.loop-log-test.false) (no_log _)))
