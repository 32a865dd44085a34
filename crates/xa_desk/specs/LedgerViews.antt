-- What contracts see of a desk's ledger with one manager.
use Rattle.std.specs.Prelude.{◌≡◌, ℕ, ◌<◌, Bool, true, false, nat_eq, List, [], ◌∷◌, ◌++◌, length, map}
use Rattle.std.specs.List.{list_any, IsDistinct}
use Rattle.xa_words.specs.declared.request.Op.{Op}
use Rattle.xa_words.specs.declared.code.Code.{Code}
use Rattle.xa_words.specs.declared.code.Code.TheVariants.{RmFail}

-- whether the manager takes asynchronous calls, how many requests are planned for it, the requests that were sent to it
-- in order, which are numbered from 0, and what was collected from it in order, as numbers with their codes
pub record LedgerView : Type 0 where
  pub carries_async : Bool
  pub plan : ℕ
  pub sent : List Op
  pub collected : List (ℕ × Code)

-- a ledger with which nothing was done
abbrev pub new_ledger : Bool → ℕ → LedgerView
new_ledger carries plan = record { carries_async = carries; plan = plan; sent = []; collected = [] }

-- XAER_RMFAIL
abbrev pub is_rm_fail : Code → Bool
is_rm_fail RmFail = true
is_rm_fail _ = false

-- the manager is learnt to be shut where a collected code is XAER_RMFAIL
abbrev pub learnt_shut : LedgerView → Bool
learnt_shut a = list_any (λ p. is_rm_fail p.1) a.collected

-- the numbers of the requests that were collected
abbrev pub numbers : LedgerView → List ℕ
numbers a = map (λ p. p.0) a.collected

-- the request of this number was collected
abbrev pub is_collected : LedgerView → ℕ → Bool
is_collected a n = list_any (nat_eq n) (numbers a)

-- one more request was sent
abbrev pub with_sent : LedgerView → Op → LedgerView
with_sent a op = record a { sent = a.sent ++ op ∷ [] }

-- one more request was collected
abbrev pub with_collected : LedgerView → ℕ → Code → LedgerView
with_collected a n code = record a { collected = a.collected ++ (n, code) ∷ [] }

-- each number that was sent was collected once, and no other
pub record IsBalanced (a : LedgerView) : Type 0 where
  pub distinct : IsDistinct nat_eq (numbers a)
  pub below : (n : ℕ) → is_collected a n ≡ true → n < length a.sent
  pub all : (n : ℕ) → n < length a.sent → is_collected a n ≡ true
