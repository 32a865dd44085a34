-- Where all that is outstanding at a desk is kept under numbers, and where nothing is.
use Rattle.std.specs.Prelude.{◌≡◌, ℕ, None, Some}
use Rattle.std.specs.FinMap as map
use Rattle.xa_desk.specs.declared.operation.Operation.{Operation}
use Rattle.xa_desk.specs.DeskViews.{DeskView, IsOut}

-- each operation that is outstanding is kept under a number
pub record AllKept (d : DeskView) : Type 0 where
  pub each : (o : Operation) → IsOut d.ledgers o → (k : ℕ) × (map.get d.kept k ≡ Some o)

-- no operation is kept
abbrev pub HoldsNone : DeskView → Type 0
HoldsNone d = (k : ℕ) → map.get d.kept k ≡ None
