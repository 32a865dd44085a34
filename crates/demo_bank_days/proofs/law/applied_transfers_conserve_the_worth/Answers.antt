use Rattle.demo_bank_days.proofs.Made.{conserved}
use Rattle.demo_bank_days.proofs.law.applied_transfers_conserve_the_worth.Goals as goal

pub returns : goal.returns
returns g c p tellers es b b' sound opened moved within =
    conserved p sound es within b.settled b'.settled opened.tables
    (λ m k up there. moved.balances m k (rw opened.stores up) there)
