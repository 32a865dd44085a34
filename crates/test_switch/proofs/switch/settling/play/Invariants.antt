use Rattle.std.proofs.Common.{◌≡◌}
use Rattle.xa_switch.specs.{seat_of_desk}
use Rattle.test_switch.proofs.switch.settling.play.Given as goal

abbrev pub invariant-loop-act : goal.invariant-loop-act
invariant-loop-act g l = record {
  seat : seat_of_desk l.desk ≡ seat_of_desk l.fn.desk;
  idled : g.I.Idle.leads l.fn.idle l.idle;
}
