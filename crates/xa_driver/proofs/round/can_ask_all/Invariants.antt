use Rattle.xa_base.proofs.{drop, ◌↔◌}
use Rattle.xa_driver.specs.{AllCanAsk}
use Rattle.xa_driver.proofs.round.can_ask_all.Given as goal

abbrev pub invariant-loop-ask : goal.invariant-loop-ask
invariant-loop-ask l = AllCanAsk l.asks l.desk.ledgers ↔ AllCanAsk (drop l.ask-index l.asks) l.desk.ledgers
