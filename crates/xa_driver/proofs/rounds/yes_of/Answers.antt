use Rattle.xa_base.proofs.{rules}
use Rattle.xa_words.proofs.ManagerSets.{set_by}
use Rattle.xa_driver.specs.{asked_yes}
use Rattle.xa_driver.proofs.rounds.yes_of.Goals as goal

pub returns : goal.returns
returns c =
    set_by c.from_fn.result (λ m. asked_yes m c.args.asks.now) c.from_fn.ensures.places
    (λ m up. let asked = c.from_fn.ensures.asked m up in search rules)
