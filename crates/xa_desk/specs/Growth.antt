-- How what a desk sent and collected grows.
use Rattle.std.specs.Prelude.{ℕ, ◌≤◌, List}
use Rattle.xa_base.specs.Lists.{Begins}
use Rattle.xa_desk.specs.LedgerViews.{LedgerView}
use Rattle.xa_desk.specs.DeskViews.{ledger}

-- the ledger has what it had, in its order, and perhaps more after it
pub record HasGrown (a a' : LedgerView) : Type 0 where
  pub sent : Begins a.sent a'.sent
  pub collected : Begins a.collected a'.collected

-- so for each manager
pub record HaveGrown (at at' : List LedgerView) : Type 0 where
  pub each : (m : ℕ) → 1 ≤ m → HasGrown (ledger at m) (ledger at' m)
