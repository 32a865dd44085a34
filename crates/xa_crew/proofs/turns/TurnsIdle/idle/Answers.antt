use Rattle.xa_base.proofs.{List, length, ap, arith}
use Rattle.xa_worker.specs.{WorkerView}
use Rattle.xa_crew.specs.Turns.TurnsFor.{its}
use Rattle.xa_crew.proofs.turns.TurnsIdle.idle.Goals as goal

pub returns-then-manager-len : goal.returns-then-manager-len
returns-then-manager-len g c =
    let many = ap (λ (l : List WorkerView). length l) c.self.view_is in
    record { turns = its c.turn.result (omega arith) (omega (arith, many)) c.turn.ensures.turn; on = c.turn.ensures.on }
