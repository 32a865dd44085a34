use Rattle.xa_base.proofs.{ap, rules}
use Rattle.xa_log_shared.specs.{Asked}
use Rattle.xa_log_shared.proofs.Moves.{noted_item, noted_end}
use Rattle.xa_log_shared.proofs.worker.take_one.Goals as goal

pub returns-in-EndOf-clause-noted : goal.returns-in-EndOf-clause-noted
returns-in-EndOf-clause-noted g c =
    noted_end c.args.ended.now c.args.asks.now.taken c.take.new.self.taken c.in-EndOf.from
    (ap (λ (a : Asked). a.taken) c.in-EndOf.ensures.took.1) (search rules) c.requires.noted

pub returns-in-Item-clause-noted : goal.returns-in-Item-clause-noted
returns-in-Item-clause-noted g c =
    noted_item c.args.ended.now c.args.asks.now.taken c.take.new.self.taken c.in-Item.from c.in-Item.ask
    (ap (λ (a : Asked). a.taken) c.in-Item.ensures.took.1) c.requires.noted
