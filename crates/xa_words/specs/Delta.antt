-- Changes of a value.
use Rattle.std.specs.Prelude.{ℤ, neg_ℤ, pos, ◌≤ℤ◌, int_le, Bool, ◌&&◌, if◌then◌else◌, Option, Some, None}
use Rattle.xa_base.specs.declared.limits.TheConstants.{MOST_VALUE}

-- at most 10^12 either way, as a fact
abbrev pub IsDelta : ℤ → Type 0
IsDelta z = (neg_ℤ (pos MOST_VALUE) ≤ℤ z) × (z ≤ℤ pos MOST_VALUE)

-- at most 10^12 either way, as a test
abbrev pub is_delta : ℤ → Bool
is_delta z = int_le (neg_ℤ (pos MOST_VALUE)) z && int_le z (pos MOST_VALUE)

-- the change by this amount, if there is one
abbrev pub delta_of : ℤ → Option ℤ
delta_of z = if is_delta z then Some z else None
