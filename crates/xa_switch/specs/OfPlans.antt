-- Which setup a settled opening is of.
use Rattle.std.specs.Prelude.{◌≡◌, ℕ, ◌+◌, map, slice_get, Some}
use Rattle.std.specs.List.{range_with_len}
use Rattle.std.specs.List.Sorted.{IsPermutation}
use Rattle.xa_tables.specs.ManagerTables.{Tables}
use Rattle.xa_switch.specs.Settled.{Settling}
use Rattle.xa_switch.specs.Fates.{first_of}
use Rattle.xa_switch.specs.Plans.{Setup, planned}
use Rattle.xa_switch.specs.declared.plan.Plan.{Plan}

-- its number, its threads and its managers are those of the setup, and each manager began with the setup's tables
pub record IsOf (p : Setup) (s : Settling) : Type 0 where
  pub opening : s.opening ≡ p.numbers.opening
  pub threads : IsPermutation (range_with_len 1 p.numbers.threads) (map (λ t. t.thread) s.threads)
  pub managers : IsPermutation (range_with_len 1 p.managers) (map (λ m. m.number) s.managers)
  pub opened : (m : ℕ) (T : Tables) → slice_get p.first m ≡ Some T → first_of s (m + 1) ≡ Some T

-- it was opened by the plan
abbrev pub IsOfPlan : Plan → Settling → Type 0
IsOfPlan p s = IsOf (planned p) s
