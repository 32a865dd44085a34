use Rattle.xa_base.proofs.{suc, refl, ap, ◌∙◌}
use Rattle.xa_lane.specs.{with_full}
use Rattle.xa_desk.proofs.ended.end_one.Goals as goal

pub loop-init : goal.loop-init
loop-init g c = record { fulls = (0, refl, refl); idled = g.met.I.Idle.leads_start _ }

pub loop-preserved : goal.loop-preserved
loop-preserved g c =
    record {
      fulls = (
        suc c.loop.invariant.fulls.0,
        c.in-Err.ensures.ended
            ∙ ap with_full c.loop.invariant.fulls.1,
        (_, c.loop.invariant.fulls.2, c.idle.ensures),
      );
      idled = g.met.I.Idle.leads_chain _ _ _ c.loop.invariant.idled (g.met.I.Idle.leads_each _ _ _ c.idle.ensures);
    }
