-- The bank as an abstract machine: balances, and transfers that are applied whole or not at all.
use Rattle.std.specs.Prelude.{ℕ, ℤ, pos, ◌+ℤ◌, neg_ℤ, Bool, ◌==◌, ◌&&◌, if◌then◌else◌, List, [], ◌∷◌}
use Rattle.xa_words.specs.Key.{key_eq}
use Rattle.demo_bank.specs.declared.teller.Transfer.{Transfer}

-- the balance of each account at each store
abbrev pub Balances : Type 0
Balances = ℕ → List ℕ → ℤ

-- what an account at store m is paid by a transfer, and what it pays
abbrev pub transfer_share : Transfer → ℕ → List ℕ → ℤ
transfer_share tr m k =
    (if (tr.to == m) && key_eq k tr.account then pos tr.amount else pos 0)
    +ℤ (if (tr.from == m) && key_eq k tr.account then neg_ℤ (pos tr.amount) else pos 0)

-- a transfer that was decided to commit is applied whole, and any other not at all
abbrev pub applied : Transfer → Bool → Balances → Balances
applied tr was B m k = if was then B m k +ℤ transfer_share tr m k else B m k

-- so for many, one after the other, each with whether it was applied
abbrev pub all_applied : List (Transfer × Bool) → Balances → Balances
all_applied [] B = B
all_applied (e ∷ es) B = all_applied es (applied e.0 e.1 B)
