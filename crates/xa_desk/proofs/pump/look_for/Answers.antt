use Rattle.xa_lane.specs.{Empty}
use Rattle.xa_desk.proofs.Looks.{looks_drawn}
use Rattle.xa_desk.proofs.pump.look_for.Goals as goal

pub returns-then-not-draw-clause-looks : goal.returns-then-not-draw-clause-looks
returns-then-not-draw-clause-looks g c =
    looks_drawn _ _ _ Empty c.loop.invariant.looks (c.draw.ensures.quiet c.if-not-draw.true)

pub returns-then-not-draw-clause-quiet : goal.returns-then-not-draw-clause-quiet
returns-then-not-draw-clause-quiet g c =
    λ _. record {
      before = c.loop.book;
      looks = c.loop.invariant.looks;
      quiet = c.draw.ensures.quiet c.if-not-draw.true;
    }
