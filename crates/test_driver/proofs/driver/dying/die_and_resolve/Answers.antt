use Rattle.xa_base.proofs.{◌≡◌, [], ◌∷◌, sym, ap, subst, ◌∙◌}
use Rattle.xa_switch.specs.{Settling}
use Rattle.xa_driver.specs.{endings_known}
use Rattle.xa_log.specs.{Records, record_in}
use Rattle.laws_commit.specs.{CountsByTheLog, EndsByTheLog, CommitCall, ResolveCall, commits, resolves, with_use}
use Rattle.test_driver.proofs.driver.dying.die_and_resolve.Goals as goal

pub returns : goal.returns
returns g c =
    let first = c.die_and_settle-settled.result in
    let died = first.died in
    let k : CommitCall =
    record {
      thread = first.thread;
      branches = c.args.branches.now;
      desk = died.before.value;
      new =
          died.after.value.ledgers;
      log =
          g.L.DecisionLog.state died.log_before.value;
      later =
          g.L.DecisionLog.state died.log_after.value;
      endings = endings_known died.known;
    } in
    let last = c.recover-last.result in
    let ended = last.ended in
    let q : Records → ResolveCall =
    λ records.
    record {
      thread = last.thread;
      scan = ended.scan.value;
      old = ended.before.value.ledgers;
      new = ended.after.value.ledgers;
      records = records;
      outcomes = ended.told.outcomes.items;
    } in
    let records : Records = g.L.DecisionRecords.records c.die_and_settle-settled.new.log in
    let records_are : records ≡ k.later.records =
    g.met.L.DecisionLog.records_are c.die_and_settle-settled.new.log
    ∙ ap (λ l. (g.L.DecisionLog.state l).records) (sym c.die_and_settle-settled.ensures.log) in
    let resolved =
    c.next_openings_resolve.ensures first.settled last.settled c.args.again.now k (q records)
    c.die_and_settle-settled.ensures.settled
    (record { made = c.die_and_settle-settled.ensures.cut; grown = c.die_and_settle-settled.ensures.grown })
    c.die_and_settle-settled.ensures.few (λ j d lt asked. c.die_and_settle-settled.ensures.own.each j d lt)
    c.recover-last.ensures.settled
    (record { made = c.recover-last.ensures.trace; grown = c.recover-last.ensures.grown })
    c.recover-last.ensures.continues c.recover-last.ensures.of
    c.recover-last.ensures.scan (λ left t tran. ap (λ (r : Records). record_in r t) records_are)
    (λ t tran. c.recover-last.ensures.later t) (λ j d lt of. c.recover-last.ensures.reached j d lt) in
    let outcome : EndsByTheLog k (with_use first.settled (commits k))
    (with_use last.settled (resolves (q records)) ∷ []) × CountsByTheLog k (with_use first.settled (commits k))
    (with_use last.settled (resolves (q records)) ∷ []) = (
      c.presumed_transactions_have_one_outcome.ensures (with_use first.settled (commits k)) []
          (with_use last.settled (resolves (q records))) k (q records) resolved,
      c.presumed_transactions_count_by_the_log.ensures (with_use first.settled (commits k)) []
          (with_use last.settled (resolves (q records))) k (q records) resolved,
    ) in
    subst
    (λ (p : Settling × Records). EndsByTheLog k (with_use p.0 (commits k))
    (with_use last.settled (resolves (q p.1)) ∷ []) × CountsByTheLog k (with_use p.0 (commits k))
    (with_use last.settled (resolves (q p.1)) ∷ []))
    (λ i. (sym c.of-first.ensures i, sym (ap g.L.DecisionRecords.records c.of.ensures) i)) outcome
