use Rattle.demo_bank_days.proofs.DayLaw.{opened_ready}
use Rattle.demo_bank_days.proofs.law.opened_banks_are_ready.Goals as goal

pub returns : goal.returns
returns g c p tellers b opened bare = opened_ready g.L.DecisionLog.state p tellers b opened bare
