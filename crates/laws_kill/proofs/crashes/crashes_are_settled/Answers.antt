use Rattle.laws_kill.proofs.Settling.{as_settled_all}
use Rattle.laws_kill.proofs.crashes.crashes_are_settled.Goals as goal

pub returns : goal.returns
returns c = λ p crash is. as_settled_all p crash is
