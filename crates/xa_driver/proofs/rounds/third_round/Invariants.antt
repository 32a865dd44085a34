use Rattle.xa_base.proofs.{◌≡◌, ◌++◌, drop, map, take}
use Rattle.xa_driver.specs.{third_ask}
use Rattle.xa_driver.proofs.rounds.third_round.Given as goal

abbrev pub invariant-loop-ask : goal.invariant-loop-ask
invariant-loop-ask l = l.asks ≡ map third_ask (take l.ask-index l.initial.asks) ++ drop l.ask-index l.initial.asks
