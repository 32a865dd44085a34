use Rattle.xa_base.proofs.{arith, ◌≡◌, ◌+◌, ◌++◌, ◌∷◌, [], ap, sym, take, true, ◌∙◌, take_more}
use Rattle.xa_log_shared.specs.{answered_by}
use Rattle.xa_log_shared.proofs.Deeds.{new_after}
use Rattle.xa_log_shared.proofs.Moves.{settles_next, drop_more}
use Rattle.xa_log_shared.proofs.group.append_each.Goals as goal

pub loop-one-preserved : goal.loop-one-preserved
loop-one-preserved g c =
    let ws = c.args.waiting.now in
    let i = c.loop-one.one-index in
    let w = c.one-item.result in
    let a = answered_by w.from w.decision c.append_one-answer.result in
    let does = c.append_one-answer.ensures.does w.from in
    let more : take (i + 1) ws ≡ take i ws ++ w ∷ [] =
    take_more ws i w c.loop-one-test.true ∙ ap (λ x. take i ws ++ x ∷ []) (sym c.one-item.is) in
    let new =
    λ (known : c.loop-one.is_known ≡ true). rw (drop_more ws i w c.loop-one-test.true c.one-item.is) at
    (c.loop-one.invariant.new known) in
    search (arith, new_after, settles_next, c.loop-one.is_known)
