use Rattle.xa_base.proofs.{◌≡◌, ◌+◌, refl}
use Rattle.xa_switch.specs.{desk_parts}
use Rattle.xa_switch.proofs.Dealing.{push_more}
use Rattle.xa_switch.proofs.opening.reserve.reserve_desks.Goals as goal

pub loop-before-preserved : goal.loop-before-preserved
loop-before-preserved c =
    let i = c.loop-before.invariant in
    let n = c.loop-before.before in
    let (many, each) = push_more (λ k p. p ≡ desk_parts c.args.numbers.now c.args.use_async.now (k + 1))
    c.loop-before.parts.items _ c.in_ok-part.part n (n + 1)
    i.many refl c.in_ok-push.ensures.items i.each c.in_ok-part.ensures in
    record { many = many; each = each }
