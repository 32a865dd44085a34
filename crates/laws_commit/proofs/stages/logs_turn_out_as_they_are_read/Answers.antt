use Rattle.xa_driver.specs.{LogKind}
use Rattle.laws_commit.proofs.Staged.{known_so, reads_so}
use Rattle.laws_commit.proofs.stages.logs_turn_out_as_they_are_read.Goals as goal

pub returns : goal.returns
returns g c =
    let kind : LogKind g.row.L.Denot =
    record {
      knows = g.L.DecisionRecords.knows;
      appends = g.L.DecisionLog.appends;
      loses = g.L.DecisionLog.loses;
    } in
    record {
      known = λ tran bs old new o. known_so kind g.L.DecisionLog.state tran bs old new o;
      read = λ tran bs old new read o. reads_so kind g.L.DecisionLog.state tran bs old new read o;
    }
