use Rattle.test_driver.proofs.Shutting.{after_call}
use Rattle.test_driver.proofs.driver.resolved.shut.Goals as goal

pub returns-clause-shuts : goal.returns-clause-shuts
returns-clause-shuts g c = after_call _ _ 2 _ c.call.ensures.collected c.call.ensures.unchanged
