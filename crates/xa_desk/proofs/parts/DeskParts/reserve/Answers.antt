use Rattle.xa_base.proofs.{arith, ◌≡◌, ◌∙◌, ap, length-map}
use Rattle.xa_desk.specs.{carried}
use Rattle.xa_desk.proofs.KeyRows.{carried-new}
use Rattle.xa_desk.proofs.parts.DeskParts.reserve.Goals as goal
use Rattle.xa_desk.proofs.parts.DeskParts.reserve.Goals.{In_ok-ends}

flags : (c : In_ok-ends) → carried c.in_ok-ledgers.ledgers.items ≡ c.args.use_async.now
flags c = ap carried c.in_ok-ledgers.ensures ∙ carried-new c.args.requests c.args.use_async.now

pub invariant_of-result : goal.invariant_of-result
invariant_of-result c = search (arith, flags, length-map)

pub returns : goal.returns
returns c = search (arith, flags)
