-- The places of the accounts that branches have touched.
use Rattle.std.specs.Prelude.{◌≡◌, ℕ, zero, suc, nat_eq, ℤ, Bool, false, if◌then◌else◌, List, [], ◌∷◌, ◌++◌, is_some}
use Rattle.std.specs.Prelude.{Option, None, option_map}
use Rattle.std.specs.List.{IsDistinct, list_any}
use Rattle.xa_words.specs.Xid.{XidName}
use Rattle.xa_tables.specs.declared.accounts.Account.{Account}
use Rattle.xa_tables.specs.Accounts.{hold_amount}

-- whether the account at a place passes
abbrev pub passes_at : (Account → Bool) → List Account → ℕ → Bool
passes_at test [] place = false
passes_at test (a ∷ rest) zero = test a
passes_at test (a ∷ rest) (suc place) = passes_at test rest place

-- a branch has touched the account's key
abbrev pub is_held : Account → Bool
is_held a = is_some a.hold

-- a branch has touched the key at a place
abbrev pub is_held_at : List Account → ℕ → Bool
is_held_at accounts place = passes_at is_held accounts place

-- these are the places of the accounts that branches have touched, each once
pub record AreHeld (held : List ℕ) (accounts : List Account) : Type 0 where
  pub once : IsDistinct nat_eq held
  pub each : (place : ℕ) → list_any (nat_eq place) held ≡ is_held_at accounts place

-- the account's key with what x has added to it, if x has touched it
abbrev pub own_sum : XidName → Account → Option (List ℕ × ℤ)
own_sum x a = option_map (λ v. (a.key, v)) (hold_amount x a.hold)

-- and so that at a place
abbrev pub sum_at : XidName → List Account → ℕ → Option (List ℕ × ℤ)
sum_at x [] place = None
sum_at x (a ∷ rest) zero = own_sum x a
sum_at x (a ∷ rest) (suc place) = sum_at x rest place

-- one place more, where it wasn't there before
abbrev pub noted : List ℕ → Bool → ℕ → List ℕ
noted held is_there place = if is_there then held else held ++ place ∷ []
