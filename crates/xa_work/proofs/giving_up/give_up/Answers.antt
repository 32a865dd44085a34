use Rattle.xa_base.proofs.{chain_all, chain_more, arith, [], refl}
use Rattle.xa_base.specs.Lists.Chain.{none}
use Rattle.xa_words.specs.{TMFAIL}
use Rattle.xa_words.specs.declared.flags.Call.TheVariants as call
use Rattle.xa_work.specs.{CallsFor}
use Rattle.xa_work.proofs.Making.{leaves_none, leaves_on}
use Rattle.xa_work.proofs.giving_up.give_up.Goals as goal

pub loop-branch-init : goal.loop-branch-init
loop-branch-init g c = record { leaves = leaves_none c.idles_go_on.ensures.same _ _; ends = none [] _ refl refl }

pub loop-branch-preserved : goal.loop-branch-preserved
loop-branch-preserved g c = record {
  leaves = leaves_on c.idles_go_on.ensures.further c.loop-branch.invariant.leaves c.fail.ensures.goes_on
      c.fail.ensures.kept c.fail.ensures.idled;
  ends = grind (arith, chain_more);
}

pub loop-branch-2-init : goal.loop-branch-2-init
loop-branch-2-init g c = record {
  leaves = c.loop-branch.invariant.leaves;
  rolls_back = (
    _,
    chain_all (CallsFor call.End TMFAIL) c.args.branches.now _ _ _ c.loop-branch-test.false
        c.loop-branch.invariant.ends,
    none [] _ refl refl,
  );
}

pub loop-branch-2-preserved : goal.loop-branch-2-preserved
loop-branch-2-preserved g c = record {
  leaves = leaves_on c.idles_go_on.ensures.further c.loop-branch-2.invariant.leaves c.roll_back.ensures.goes_on
      c.roll_back.ensures.kept c.roll_back.ensures.idled;
  rolls_back =
      let (ended, ends, rolls) = c.loop-branch-2.invariant.rolls_back in (
        ended,
        ends,
        chain_more (CallsFor call.Rollback 0) c.args.branches.now _ c.branch-item-in-loop-branch-2.result _
            _ _
            c.loop-branch-2-test.true c.branch-item-in-loop-branch-2.is rolls c.roll_back.ensures.asks,
      );
}

pub returns-clause-gives_up : goal.returns-clause-gives_up
returns-clause-gives_up g c =
    search (arith, chain_all, c.loop-branch-2.invariant.rolls_back, c.loop-branch-2-test.false)
