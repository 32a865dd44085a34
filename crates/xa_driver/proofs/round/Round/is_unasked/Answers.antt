use Rattle.xa_base.proofs.{refl, ◌≢◌, arith, length, eqb-false}
use Rattle.xa_driver.proofs.Progress.{unasked_is}
use Rattle.xa_driver.proofs.round.Round.is_unasked.Goals as goal

pub returns-then-not-is_empty : goal.returns-then-not-is_empty
returns-then-not-is_empty c =
    let some : length c.args.self.now.tickets.items ≢ 0 = search (arith, eqb-false, c.args.self.now.tickets.ok.0) in
    unasked_is c.args.self.now c.requires.0 c.is_passed.result c.index.result.now _ c.requires.1 refl some
    c.index.ensures c.is_passed.ensures
