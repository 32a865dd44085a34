use Rattle.xa_base.proofs.{rules, ℕ, ◌+◌, ◌-◌, ◌^◌, ◌<◌, ◌≤◌, length, arith, All-weaker}
use Rattle.demo_bank_days.specs.{Errands}
use Rattle.demo_bank_days.proofs.bank.Bank.after.Goals as goal

pub returns-in_err-next-clause-none : goal.returns-in_err-next-clause-none
returns-in_err-next-clause-none g c none good =
    let next : ℕ = c.args.self.now.next in
    let least : c.most.result ≤ 2 ^ 32 - 1 - next =
    c.most.ensures.least (2 ^ 32 - 1 - next)
    (All-weaker (λ (e : Errands). next + length e.transfers.items < 2 ^ 32)
    (λ (e : Errands). length e.transfers.items ≤ 2 ^ 32 - 1 - next) (λ e small. omega (arith, small))
    c.args.errands.now good.2) in
    search rules
