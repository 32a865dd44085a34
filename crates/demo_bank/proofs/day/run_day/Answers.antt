use Rattle.xa_base.proofs.{arith, Result, Ok, Err, IfOk}
use Rattle.std.specs.Prelude.{OnOk}
use Rattle.demo_bank.proofs.Days.{day_law}
use Rattle.demo_bank.proofs.day.run_day.Goals as goal

-- what holds of the value, and what holds wherever there is one
ok_both : {A E : Type 0} (P : A → Type 0) (Q : Type 0) (r : Result A E) → IfOk r P → OnOk r Q → IfOk r (λ a. P a × Q)
ok_both P Q (Ok a) h q = (h, q)
ok_both P Q (Err e) h q = h

pub returns-clause-conserved : goal.returns-clause-conserved
returns-clause-conserved g c = grind (arith, day_law, ok_both)
