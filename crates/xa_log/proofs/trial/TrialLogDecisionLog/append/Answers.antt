use Rattle.xa_base.proofs.{◌≡◌, true, sym, ◌∙◌}
use Rattle.xa_log.proofs.Trials.{loses_itself, one_lost}
use Rattle.xa_log.proofs.trial.TrialLogDecisionLog.append.Goals as goal

pub returns-then-loses-clause-unknown : goal.returns-then-loses-clause-unknown
returns-then-loses-clause-unknown g c = λ _.
    let log = g.L.DecisionLog in
    let decision = c.args.decision.now in
    let old = c.args.self.now in
    let found = c.lose.new.self.found in
    let is : c.lose.new.self ≡ one_lost old found =
    c.lose.ensures.lost ∙ (λ i. record (c.count_append.ensures i) { found = found; is_lost = true }) in
    let next = sym c.loses_next-loses.ensures ∙ c.if-loses.true in
    let kept = rw c.count_append.ensures at c.lose.ensures.kept in
    let gone = rw c.count_append.ensures at c.lose.ensures.gone in
    rw is
    (loses_itself log.state g.L.DecisionRecords.knows log.appends log.loses decision.tran decision.yes old found
    c.requires.known next kept gone)
