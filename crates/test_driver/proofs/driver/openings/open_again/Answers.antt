use Rattle.xa_base.proofs.{sym, subst, arith, All}
use Rattle.xa_switch.specs.{IsScanOf}
use Rattle.test_driver.proofs.driver.openings.open_again.Goals as goal

-- the one scan is all scans
pub returns-clause-scan : goal.returns-clause-scan
returns-clause-scan g c =
    subst (All (IsScanOf c.args.settled)) (sym c.in-Some-one-2.ensures) c.in-Some.ensures.scans.each 0
    c.in-Some-one-2.scan (omega arith)
