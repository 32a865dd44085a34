-- The values of the declared keys after a run.
use Rattle.std.specs.Prelude.{◌≡◌, ℕ, ◌+◌, pos, Some, All, List, length, map, slice_get}
use Rattle.std.specs.Ordering.{nat_cmp, ordering_then}
use Rattle.std.specs.declared.cmp.Ordering.{Ordering}
use Rattle.std.specs.List.Sorted.{IsPermutation, IsSorted}
use Rattle.xa_words.specs.Key.{key_cmp}
use Rattle.xa_tables.specs.ManagerTables.{Tables}
use Rattle.xa_tables.specs.Histories.{History}
use Rattle.xa_tables.specs.Openings.{left_by, value_over}
use Rattle.xa_tables.specs.Managers.{opening}
use Rattle.xa_switch.specs.Settled.{ManagerPart, Settling}
use Rattle.xa_switch.specs.Fates.{history}
use Rattle.script_grammar.specs.declared.script.Declared.{Declared}
use Rattle.script_grammar.specs.Contents.{Content, managers_of, declared_accounts}

-- The tables of manager m at its first opening.
abbrev pub opened : Content → ℕ → Tables
opened s m = opening (declared_accounts m s.keys)

-- What manager m took in each of these openings.
abbrev pub histories_at : List Settling → ℕ → List History
histories_at openings m = map (λ o. history o m) openings

-- The tables of manager m as the next opening after these begins.
abbrev pub opened_after : Content → List Settling → ℕ → Tables
opened_after s openings m = left_by (histories_at openings m) (opened s m)

-- Each manager of the script is there, by rising number, and began with its tables.
pub record AreOfScript (s : Content) (tables : ℕ → Tables) (managers : List ManagerPart) : Type 0 where
  pub many : length managers ≡ managers_of s
  pub numbers : (k : ℕ) (p : ManagerPart) → slice_get managers k ≡ Some p → p.number ≡ k + 1
  pub first : (k : ℕ) (p : ManagerPart) → slice_get managers k ≡ Some p → p.first ≡ tables (k + 1)

-- A key by its manager and its name.
abbrev pub name_of : Declared → ℕ × List ℕ
name_of d = (d.manager, d.key)

-- The key has the value that it has after the requests in its manager's journals of these openings.
abbrev pub IsWorth : Content → List Settling → Declared → Type 0
IsWorth s openings d = value_over d.key (histories_at openings d.manager) (opened s d.manager) ≡ Some (pos d.value)

-- Keys are shown by rising manager, and of one manager by the bytes of the key.
abbrev pub shown_cmp : Declared → Declared → Ordering
shown_cmp d e =
    ordering_then (nat_cmp d.manager e.manager) (ordering_then (key_cmp d.key e.key) (nat_cmp d.value e.value))

-- These are the declared keys, each once and with its value after the journals of these openings, in the order in which
-- keys are shown.
pub record AreValues (s : Content) (openings : List Settling) (values : List Declared) : Type 0 where
  pub all : IsPermutation (map name_of s.keys) (map name_of values)
  pub worth : All (IsWorth s openings) values
  pub rising : IsSorted shown_cmp values
