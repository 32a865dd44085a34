use Rattle.std.proofs.Common.{ap, ◌∙◌}
use Rattle.std.proofs.Math.Seq.{map-set_same}
use Rattle.xa_switch.specs.{seat_of_desk}
use Rattle.test_switch.proofs.switch.settling.turns.Opened.recover.Goals as goal

pub returns-clause-desks : goal.returns-clause-desks
returns-clause-desks g c =
    map-set_same seat_of_desk c.args.self.now.desks.items c.args.before c.recovers.new.desk c.index_mut.result.now
    (c.recovers.ensures.seat ∙ ap seat_of_desk c.index_mut.ensures.value)
