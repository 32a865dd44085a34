use Rattle.xa_base.proofs.{map}
use Rattle.xa_driver.specs.{first_ask}
use Rattle.xa_driver.proofs.Progress.{first_idles, idles_start, whole_in_order}
use Rattle.xa_driver.proofs.stages.prepare_all.Goals as goal

pub returns-clause-prepared : goal.returns-clause-prepared
returns-clause-prepared g c =
    c.finish.ensures.prepared c.args.branches.now c.args.desk.now c.in_ok-preparing.ensures.preparing

pub returns-clause-ordered : goal.returns-clause-ordered
returns-clause-ordered g c =
    let p = c.in_ok-preparing.ensures.preparing in
    whole_in_order c.in_ok-preparing.preparing.round (map first_ask c.args.branches.now) c.args.desk.now
    c.finish.new.desk c.finish.ensures.ordered c.in_ok-preparing.ensures.none p.before p.same

pub returns-in_err-preparing-clause-waited : goal.returns-in_err-preparing-clause-waited
returns-in_err-preparing-clause-waited g c = idles_start _ _

pub returns-clause-keeps : goal.returns-clause-keeps
returns-clause-keeps g c = rw c.in_ok-preparing.ensures.preparing.before at c.finish.ensures.keeps

pub returns-clause-waited : goal.returns-clause-waited
returns-clause-waited g c = first_idles _ _ _ _ c.in_ok-preparing.ensures.preparing.same c.finish.ensures.waited
