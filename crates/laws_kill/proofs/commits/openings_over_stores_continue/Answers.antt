use Rattle.xa_base.proofs.{◌+◌}
use Rattle.xa_switch.specs.{Again}
use Rattle.laws_kill.specs.{as_settled}
use Rattle.laws_kill.proofs.Next.{continues}
use Rattle.laws_kill.proofs.commits.openings_over_stores_continue.Goals as goal

pub returns : goal.returns
returns c = record {
  settled = λ p crash next again flags is of. continues p crash is next again flags of;
  crashed = λ p crash other again flags is then_is.
      let more : Again = record again { threads = again.threads + 1 } in
      continues p crash is (as_settled other) more flags (c.crashes_are_settled.ensures _ other then_is).of;
}
