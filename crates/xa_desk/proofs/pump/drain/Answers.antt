use Rattle.xa_desk.proofs.pump.drain.Goals as goal

pub returns-then-not-draw-clause-quiet : goal.returns-then-not-draw-clause-quiet
returns-then-not-draw-clause-quiet g c =
    record { before = c.loop.book; looks = c.loop.invariant.looks; quiet = c.draw.ensures.quiet c.if-not-draw.true }
