-- Which accounts a manager may be declared with: keys with values.
use Rattle.std.specs.Prelude.{ℕ, nat_le, Bool, true, not, ◌&&◌, List, [], ◌∷◌, length}
use Rattle.std.specs.List.{list_any, list_all}
use Rattle.xa_base.specs.declared.limits.TheConstants.{MOST_KEYS, MOST_VALUE}
use Rattle.xa_words.specs.Key.{key_eq}

-- no key stands twice
abbrev pub are_apart : List (List ℕ × ℕ) → Bool
are_apart [] = true
are_apart (d ∷ ds) = not (list_any (λ e. key_eq e.0 d.0) ds) && are_apart ds

-- at most 256 keys, none twice, each value within the limit
abbrev pub are_accounts : List (List ℕ × ℕ) → Bool
are_accounts ds = nat_le (length ds) MOST_KEYS && (list_all (λ d. nat_le d.1 MOST_VALUE) ds && are_apart ds)
