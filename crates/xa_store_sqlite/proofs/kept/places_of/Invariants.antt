use Rattle.xa_base.proofs.{◌≡◌, IsDistinct, List, lookup, take, ℕ}
use Rattle.xa_words.specs.{key_eq}
use Rattle.xa_store_sqlite.specs.{keys_of_accounts, first_place_from}
use Rattle.xa_store_sqlite.proofs.kept.places_of.Given as goal

-- the accounts at the first places are noted
abbrev pub invariant-loop-place : goal.invariant-loop-place
invariant-loop-place l =
    IsDistinct key_eq (keys_of_accounts l.accounts) → (k : List ℕ)
    → lookup (key_eq k) l.places.entries ≡ first_place_from (λ a. key_eq k a.0) 0 (take l.place l.accounts)
