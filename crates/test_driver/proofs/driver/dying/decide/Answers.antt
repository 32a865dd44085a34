use Rattle.xa_base.proofs.{◌≡◌, true, refl}
use Rattle.xa_words.specs.{Heur}
use Rattle.xa_tables.specs.{is_heur}
use Rattle.test_driver.proofs.Shutting.{after_only}
use Rattle.test_driver.proofs.driver.dying.decide.Goals as goal

pub returns-clause-decides : goal.returns-clause-decides
returns-clause-decides g c =
    after_only (λ op. is_heur op ≡ true) (Heur c.args.xid c.args.commits) refl _ _ 2 _ c.call.ensures.collected
    c.call.ensures.unchanged
