use Rattle.xa_base.proofs.{IfOk-weaker}
use Rattle.demo_bank_days.proofs.Moved.{ended_closed, days_move}
use Rattle.demo_bank_days.proofs.days.run_days.Goals as goal

pub returns-clause-moved : goal.returns-clause-moved
returns-clause-moved g c =
    let law = c.a_day_applies_its_transfers.ensures in
    IfOk-weaker c.close_days.result.end _ _
    (λ after ended over ready. days_move g.L.DecisionLog.state g.L.DecisionRecords.knows g.L.DecisionLog.loses
    g.L.ReopenLog.reopens law.applied law.dawn c.args.bank c.args.days.items c.close_days.result.closed.items
    after
    (ended_closed g.L.DecisionLog.state g.L.DecisionRecords.knows g.L.DecisionLog.loses
    g.L.ReopenLog.reopens c.args.bank c.args.days.items c.close_days.result.closed.items after ended
    over) ready) c.close_days.ensures.ended
