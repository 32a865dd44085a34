use Rattle.xa_base.proofs.{[], ◌∷◌, refl, sym, ap}
use Rattle.xa_log.specs.{LogView}
use Rattle.laws_commit.specs.{CommitCall, IsFinished}
use Rattle.test_driver.proofs.Resolved.{told_three_resolved, without_use}
use Rattle.test_driver.proofs.driver.resolved.commit_and_resolve_later.Goals as goal

pub returns : goal.returns
returns g c =
    let first = c.commit_and_crash-settled.result in
    let made = first.made in
    let call : CommitCall =
    record {
      thread = first.thread;
      branches = c.args.branches.now;
      desk = made.before.value;
      new =
          made.after.value.ledgers;
      log =
          made.log_before.value.state;
      later = made.log_after.value.state;
      endings = made.done.endings.items;
    } in
    let finished : IsFinished call made.done = record { made = c.commit_and_crash-settled.ensures.made; told = refl } in
    let last = c.recover-last.result in
    let ended = last.ended in
    let resolved =
    told_three_resolved first.settled c.of-first.result.value c.pass-passed.result c.of-between.result.value
    last.settled c.args.again.now call last.thread ended.scan.value ended.before.value.ledgers
    ended.after.value.ledgers ended.told.outcomes.items
    c.commit_and_crash-settled.new.log.state.records c.of.result.value.state.records c.of-first.ensures
    c.of-between.ensures (ap (λ (l : LogView). l.state.records) c.of.ensures)
    c.commit_and_crash-settled.ensures.settled
    (record {
      made = c.finished_commits_are_cut_after_all.ensures call made.done finished;
      grown =
          c.commit_and_crash-settled.ensures.grown;
    }) c.commit_and_crash-settled.ensures.few
    c.commit_and_crash-settled.ensures.own
    c.pass-passed.ensures.settled c.pass-passed.ensures.continues c.pass-passed.ensures.silent
    c.recover-last.ensures.settled
    (record { made = c.recover-last.ensures.trace; grown = c.recover-last.ensures.grown })
    c.recover-last.ensures.continues c.recover-last.ensures.of c.recover-last.ensures.scan
    (ap (λ (l : LogView). l.state.records) (sym c.commit_and_crash-settled.ensures.log)) c.recover-last.ensures.later
    c.recover-last.ensures.reached in (
      resolved,
      c.resolved_transactions_have_one_outcome.ensures _ (without_use c.of-between.result.value ∷ []) _ call _
          made.done resolved finished,
      c.resolved_transactions_count_where_committed.ensures.counts _
          (without_use c.of-between.result.value ∷ []) _ call _ made.done resolved finished,
      c.resolved_transactions_count_where_committed.ensures.whole _
          (without_use c.of-between.result.value ∷ []) _ call _ made.done resolved finished,
    )
