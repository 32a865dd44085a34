use Rattle.xa_base.proofs.{◌≡◌, [], refl, sym, ap, subst}
use Rattle.xa_switch.specs.{Settling}
use Rattle.xa_log.specs.{LogView, Records, record_in}
use Rattle.laws_commit.specs.{CommitCall, IsFinished, ResolveCall, IsResolved, commits, resolve_call, resolves}
use Rattle.laws_commit.specs.{with_use}
use Rattle.test_driver.proofs.driver.resolved.commit_and_resolve.Goals as goal

pub returns : goal.returns
returns g c =
    let first = c.commit_and_crash-settled.result in
    let made = first.made in
    let call : CommitCall =
    record {
      thread = first.thread;
      branches = c.args.branches.now;
      desk = made.before.value;
      new =
          made.after.value.ledgers;
      log =
          made.log_before.value.state;
      later = made.log_after.value.state;
      endings = made.done.endings.items;
    } in
    let finished : IsFinished call made.done = record { made = c.commit_and_crash-settled.ensures.made; told = refl } in
    let last = c.recover-last.result in
    let ended = last.ended in
    let q : Records → ResolveCall =
    resolve_call last.thread ended.scan.value ended.before.value.ledgers ended.after.value.ledgers
    ended.told.outcomes.items in
    let records : Records = c.commit_and_crash-settled.new.log.state.records in
    let records_are : records ≡ call.later.records =
    ap (λ (l : LogView). l.state.records) (sym c.commit_and_crash-settled.ensures.log) in
    let there =
    c.next_openings_resolve.ensures first.settled last.settled c.args.again.now call (q records)
    c.commit_and_crash-settled.ensures.settled
    (record {
      made = c.finished_commits_are_cut_after_all.ensures call made.done finished;
      grown = c.commit_and_crash-settled.ensures.grown;
    })
    c.commit_and_crash-settled.ensures.few (λ j d lt _. c.commit_and_crash-settled.ensures.own.each j d lt)
    c.recover-last.ensures.settled
    (record { made = c.recover-last.ensures.trace; grown = c.recover-last.ensures.grown })
    c.recover-last.ensures.continues c.recover-last.ensures.of
    c.recover-last.ensures.scan (λ left t tran. ap (λ (r : Records). record_in r t) records_are)
    (λ t tran. c.recover-last.ensures.later t) (λ j d lt of. c.recover-last.ensures.reached j d lt) in
    let resolved =
    subst
    (λ (p : Settling × Records). IsResolved (with_use p.0 (commits call)) []
    (with_use last.settled (resolves (q p.1))) call (q p.1))
    (λ i. (sym c.of-first.ensures i, sym (ap (λ (l : LogView). l.state.records) c.of.ensures) i)) there in (
      resolved,
      c.resolved_transactions_have_one_outcome.ensures _ [] _ call _ made.done resolved finished,
      c.resolved_transactions_count_where_committed.ensures.counts _ [] _ call _ made.done resolved finished,
      c.resolved_transactions_count_where_committed.ensures.whole _ [] _ call _ made.done resolved finished,
    )
