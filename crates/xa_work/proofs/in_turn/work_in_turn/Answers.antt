use Rattle.xa_base.proofs.{parted_at, chain_all, chain_more, arith, ◌≡◌, ◌+◌, true, false, [], drop, refl, take}
use Rattle.xa_base.specs.Lists.Chain.{none}
use Rattle.xa_work.specs.{CallsBranch}
use Rattle.xa_work.specs.Works.CallsBranches.{stopped}
use Rattle.xa_work.proofs.Making.{leaves_none, leaves_on}
use Rattle.xa_work.proofs.in_turn.work_in_turn.Goals as goal

pub loop-branch-init : goal.loop-branch-init
loop-branch-init g c = record { leaves = leaves_none c.idles_go_on.ensures.same _ _; calls = none [] _ refl refl }

pub loop-branch-preserved : goal.loop-branch-preserved
loop-branch-preserved g c =
    let cs = c.args.changes.now in
    let all_ : c.work_on.result ≡ true = cc in
    record {
      leaves = leaves_on c.idles_go_on.ensures.further c.loop-branch.invariant.leaves c.work_on.ensures.goes_on
          c.work_on.ensures.kept c.work_on.ensures.idled;
      calls =
          chain_more (λ b d e. CallsBranch cs b true d e) c.args.branches.now _ c.branch-item.result _ _ _
          c.loop-branch-test.true c.branch-item.is
          c.loop-branch.invariant.calls (rw all_ at c.work_on.ensures.calls);
    }

pub returns-then-not-work_on-clause-calls : goal.returns-then-not-work_on-clause-calls
returns-then-not-work_on-clause-calls g c =
    let bs = c.args.branches.now in
    let i = c.loop-branch.branch-index in
    let b = c.branch-item.result in
    let not_all : c.work_on.result ≡ false = cc in
    stopped (take i bs) (drop (i + 1) bs) b c.loop-branch.desk refl
    (parted_at bs i b c.loop-branch-test.true c.branch-item.is) c.loop-branch.invariant.calls
    (rw not_all at c.work_on.ensures.calls)

pub returns-clause-calls : goal.returns-clause-calls
returns-clause-calls g c = grind (arith, chain_all)
