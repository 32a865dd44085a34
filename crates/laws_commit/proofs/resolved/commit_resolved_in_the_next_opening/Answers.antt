use Rattle.xa_base.proofs.{refl}
use Rattle.laws_commit.specs.{CommitCall, IsFinished, commit_call}
use Rattle.laws_commit.proofs.resolved.commit_resolved_in_the_next_opening.Goals as goal

pub returns : goal.returns
returns g c =
    let done = c.args.done.now in
    let k : CommitCall =
    commit_call c.args.thread c.args.branches.now c.args.before.now.value c.args.after.now.value.ledgers
    (g.L.DecisionLog.state c.args.log_before.now.value) (g.L.DecisionLog.state c.args.log_after.now.value)
    done.endings.items in
    let f : IsFinished k done = record { made = c.requires.made; told = refl } in
    let resolved = c.next_openings_resolve.ensures c.args.settled.now.value c.args.next.now c.args.again.now k _
    c.requires.settled
    (record { made = c.finished_commits_are_cut_after_all.ensures k done f; grown = c.requires.grown })
    c.requires.few
    (λ j d lt _. c.requires.own.each j d lt) c.is_settled.ensures.settled
    (record { made = c.requires.trace; grown = c.requires.ended }) c.requires.continues c.requires.of c.requires.scan
    c.requires.log c.requires.later c.requires.reached in (
      c.resolved_transactions_have_one_outcome.ensures _ _ _ k _ done resolved f,
      c.resolved_transactions_count_where_committed.ensures.whole _ _ _ k _ done resolved f,
    )
