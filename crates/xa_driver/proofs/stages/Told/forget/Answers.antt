use Rattle.xa_base.proofs.{map}
use Rattle.xa_driver.specs.{third_ask}
use Rattle.xa_driver.proofs.Progress.{idles_same, whole_in_order}
use Rattle.xa_driver.proofs.Calls.{among_third}
use Rattle.xa_driver.proofs.stages.Told.forget.Goals as goal

pub returns-clause-forgot : goal.returns-clause-forgot
returns-clause-forgot g c =
    c.finish.ensures.forgot c.args.self c.args.desk.now c.begin_forgetting-forgetting.ensures.forgetting

pub returns-clause-ordered : goal.returns-clause-ordered
returns-clause-ordered g c =
    let f = c.begin_forgetting-forgetting.ensures.forgetting in
    whole_in_order c.begin_forgetting-forgetting.result.round (map third_ask c.args.self.round.asks.items)
    c.args.desk.now c.finish.new.desk c.finish.ensures.ordered c.begin_forgetting-forgetting.ensures.none f.before
    f.same

pub returns-clause-keeps : goal.returns-clause-keeps
returns-clause-keeps g c = rw c.begin_forgetting-forgetting.ensures.forgetting.before at c.finish.ensures.keeps

pub returns-clause-waited : goal.returns-clause-waited
returns-clause-waited g c =
    let f = c.begin_forgetting-forgetting in
    idles_same c.finish.ensures.waited
    (λ m. among_third c.args.self.round.asks.items f.result.round.asks.items m f.ensures.forgetting.same)
