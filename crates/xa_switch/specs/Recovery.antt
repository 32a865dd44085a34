-- The scans that a reopening gives.
use Rattle.std.specs.Prelude.{◌≡◌, ℕ, ◌+◌, List, length}
use Rattle.std.specs.List.{All}
use Rattle.xa_tables.specs.Openings.{AreLeft}
use Rattle.xa_switch.specs.Settled.{Settling}
use Rattle.xa_switch.specs.Reopening.{managers_in, reopened_at}
use Rattle.xa_scan.specs.Left.{ScanView, NoneOpen}
use Rattle.xa_switch.specs.Columns.{Each}
use Rattle.xa_words.specs.Xid.{XidName}

-- the list of each manager has what is left there, each xid once and rising
pub record HasLeft (s : Settling) (lists : List (List XidName)) : Type 0 where
  pub managers : length lists ≡ managers_in s
  pub each : Each (λ k xs. AreLeft xs (reopened_at s.managers (k + 1))) lists

-- so of each manager, and no scan is open
pub record IsScanOf (s : Settling) (z : ScanView) : Type 0 where
  pub left : HasLeft s z.left
  pub closed : NoneOpen z

-- one for each thread
pub record AreScansOf (s : Settling) (threads : ℕ) (zs : List ScanView) : Type 0 where
  pub threads_ : length zs ≡ threads
  pub each : All (IsScanOf s) zs
