use Rattle.xa_desk.proofs.Looks.{collects_found}
use Rattle.xa_desk.proofs.pump.draw_until.Goals as goal

pub returns-in-Its-clause-collected : goal.returns-in-Its-clause-collected
returns-in-Its-clause-collected g c =
    collects_found _ _ _ c.args.operation _ c.loop.invariant.looks.looks c.requires.out c.in-Its.ensures
