use Rattle.xa_base.proofs.{map}
use Rattle.xa_driver.specs.{second_ask}
use Rattle.xa_driver.proofs.Progress.{idles_same, whole_in_order}
use Rattle.xa_driver.proofs.Calls.{among_second}
use Rattle.xa_driver.proofs.stages.Decided.tell.Goals as goal

pub returns-clause-told : goal.returns-clause-told
returns-clause-told g c = c.finish.ensures.told c.args.self c.args.desk.now c.begin_telling-telling.ensures.telling

pub returns-clause-ordered : goal.returns-clause-ordered
returns-clause-ordered g c =
    let t = c.begin_telling-telling.ensures.telling in
    whole_in_order c.begin_telling-telling.result.round
    (map (second_ask c.args.self.decision.commit) c.args.self.round.asks.items) c.args.desk.now c.finish.new.desk
    c.finish.ensures.ordered c.begin_telling-telling.ensures.none t.before t.same

pub returns-clause-keeps : goal.returns-clause-keeps
returns-clause-keeps g c = rw c.begin_telling-telling.ensures.telling.before at c.finish.ensures.keeps

pub returns-clause-waited : goal.returns-clause-waited
returns-clause-waited g c =
    let t = c.begin_telling-telling in
    idles_same c.finish.ensures.waited
    (λ m. among_second c.args.self.decision.commit c.args.self.round.asks.items t.result.round.asks.items m
    t.ensures.telling.same)
