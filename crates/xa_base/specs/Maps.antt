-- More words on finite maps.
use Rattle.std.specs.Prelude.{Bool, map}
use Rattle.std.specs.declared.cmp.Ordering.{Ordering}
use Rattle.std.specs.List.{list_any}
use Rattle.std.specs.FinMap.{FinMap, entries, from_entries}

-- whether some entry passes
abbrev pub any_entry : {K X : Type 0} {R : K → K → Ordering} → (K → X → Bool) → FinMap R X → Bool
any_entry p m = list_any (λ e. p e.0 e.1) (entries m)

-- each value, changed by its key
abbrev pub map_values : {K X : Type 0} {R : K → K → Ordering} → (K → X → X) → FinMap R X → FinMap R X
map_values f m = from_entries (map (λ e. (e.0, f e.0 e.1)) (entries m))
