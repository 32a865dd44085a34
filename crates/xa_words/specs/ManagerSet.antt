-- Sets of managers as contracts see them: a truth for each of the managers 1 to 8, at place m - 1 for manager m.
use Rattle.std.specs.Prelude.{ℕ, ◌+◌, ◌-◌, Bool, false, ◌||◌, ◌==◌, List, [], ◌∷◌, map, filter, get_or}
use Rattle.std.specs.List.{range_with_len}
use Rattle.xa_base.specs.declared.limits.TheConstants.{MOST_MANAGERS}

-- manager m is in the set
abbrev pub is_in : List Bool → ℕ → Bool
is_in set m = get_or (false ∷ set) m false

-- the set of the managers that the test tells of
abbrev pub set_of : (ℕ → Bool) → List Bool
set_of test = map test (1 ∷ 2 ∷ 3 ∷ 4 ∷ 5 ∷ 6 ∷ 7 ∷ 8 ∷ [])

-- the set with manager m too
abbrev pub with_manager : ℕ → List Bool → List Bool
with_manager m set = set_of (λ k. is_in set k || (m == k))

-- its managers, by rising number
abbrev pub managers_of_set : List Bool → List ℕ
managers_of_set set = filter (is_in set) (range_with_len 1 MOST_MANAGERS)

-- those above manager m
abbrev pub managers_above : ℕ → List Bool → List ℕ
managers_above m set = filter (is_in set) (range_with_len (m + 1) (MOST_MANAGERS - m))
