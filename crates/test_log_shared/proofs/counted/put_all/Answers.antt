use Rattle.xa_base.proofs.{◌≡◌, ◌+◌, ◌++◌, ◌∷◌, [], take, ap, sym, ◌∙◌, take_more, insert}
use Rattle.xa_log_shared.specs.{own_records}
use Rattle.test_log_shared.specs.{put_records}
use Rattle.test_log_shared.proofs.Puts.{put_one_more}
use Rattle.test_log_shared.proofs.counted.put_all.Goals as goal

pub loop-decision-preserved : goal.loop-decision-preserved
loop-decision-preserved c =
    let i = c.loop-decision.decision-index in
    let all = c.args.decisions.now in
    let r = c.decision-item.result in
    let first = own_records c.args.records.now in
    let more : take (i + 1) all ≡ take i all ++ r ∷ [] =
    take_more all i r c.loop-decision-test.true ∙ ap (λ x. take i all ++ x ∷ []) (sym c.decision-item.is) in
    c.put.ensures c.if-not-put.false ∙ ap (λ m. insert m r.tran r.yes) c.loop-decision.invariant
    ∙ sym (put_one_more first (take i all) r)
    ∙ ap (put_records first) (sym more)
