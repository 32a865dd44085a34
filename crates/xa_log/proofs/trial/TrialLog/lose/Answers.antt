use Rattle.xa_log.proofs.Trials.{was_asked}
use Rattle.xa_log.proofs.trial.TrialLog.lose.Goals as goal

pub returns-clause-kept : goal.returns-clause-kept
returns-clause-kept g c = λ _.
    let log = g.L.DecisionLog in
    let decision = c.args.decision.now in
    let asked = c.append.ensures in
    was_asked log.state g.L.DecisionRecords.knows log.appends log.loses decision.tran decision.yes c.append.result
    c.args.self.now.found c.append.new.self
    asked.appended asked.refused asked.unknown
