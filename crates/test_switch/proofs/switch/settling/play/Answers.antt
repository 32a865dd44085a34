use Rattle.std.proofs.Common.{refl, ◌∙◌}
use Rattle.test_switch.proofs.switch.settling.play.Goals as goal

pub loop-act-init : goal.loop-act-init
loop-act-init g c = record { seat = refl; idled = g.met.I.Idle.leads_start _ }

pub loop-act-preserved : goal.loop-act-preserved
loop-act-preserved g c = record {
  seat = c.ask-answer.ensures.seat ∙ c.loop-act.invariant.seat;
  idled = g.met.I.Idle.leads_chain _ _ _ c.loop-act.invariant.idled c.ask-answer.ensures.idled;
}
