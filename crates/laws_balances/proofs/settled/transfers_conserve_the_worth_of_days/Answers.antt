use Rattle.laws_balances.proofs.InARow.{conserved_law}
use Rattle.laws_balances.proofs.settled.transfers_conserve_the_worth_of_days.Goals as goal

pub returns : goal.returns
returns c = conserved_law
