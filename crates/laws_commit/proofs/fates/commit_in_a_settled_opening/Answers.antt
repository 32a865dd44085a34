use Rattle.xa_base.proofs.{arith, refl}
use Rattle.laws_commit.specs.{CommitCall, IsFinished, IsFinishedIn, commit_call}
use Rattle.laws_commit.proofs.fates.commit_in_a_settled_opening.Goals as goal

pub returns : goal.returns
returns g c =
    let before = c.args.before.now.value in
    let done = c.args.done.now in
    let k : CommitCall =
    commit_call c.args.thread c.args.branches.now before c.args.after.now.value.ledgers
    (g.L.DecisionLog.state c.args.log_before.now.value) (g.L.DecisionLog.state c.args.log_after.now.value)
    done.endings.items in
    let f : IsFinished k done = record { made = c.requires.made; told = refl } in
    let z : IsFinishedIn c.args.settled.now k done =
    record { settled = c.is_settled.ensures.settled; finished = f; grown = c.requires.grown } in
    search (
      arith,
      f,
      z,
      c.one_outcome.ensures.committed,
      c.one_outcome.ensures.aborted,
      c.endings_are_fates.ensures.votes,
      c.endings_are_fates.ensures.fates,
      c.endings_are_fates.ensures.values,
      c.endings_are_fates.ensures.whole,
    )
