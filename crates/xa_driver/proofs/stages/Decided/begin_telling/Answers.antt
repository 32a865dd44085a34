use Rattle.xa_base.proofs.{refl}
use Rattle.xa_driver.specs.{Ask, second_ask}
use Rattle.xa_driver.proofs.Calls.{lent, remade_may, remade_rest}
use Rattle.xa_driver.proofs.stages.Decided.begin_telling.Goals as goal

pub again-requires : goal.again-requires
again-requires c =
    let r = c.args.self.round in
    let f : Ask → Ask = second_ask c.args.self.decision.commit in
    let is =
    lent f (λ k. refl) r.asks.len r.asks.items c.as_mut_slice.result.now c.second_round.new.asks _ r.asks.ok.0
    c.second_round.ensures c.as_mut_slice.ensures.value in
    record {
      rest = remade_rest f (λ k. refl) r _ is refl c.requires.rest;
      may = remade_may f (λ k. refl) r _ is c.args.desk.now c.requires.may;
    }
