-- What is durable.
use Rattle.std.specs.Prelude.{◌≡◌}
use Rattle.xa_tables.specs.ManagerTables.{Tables}
use Rattle.xa_tables.specs.Openings.{reopened}

-- a crash leaves what a reopening keeps of these tables, and nothing else
abbrev pub AreDurable : (Tables → Type 0) → Tables → Type 0
AreDurable may_leave T = (K : Tables) → may_leave K → K ≡ reopened T

-- A store that knows these tables, and of which a crash leaves what a reopening keeps of them: it owes nothing.
pub record Keeps {S : Type 0} (knows may_leave : S → Tables → Type 0) (T : Tables) (s : S) : Type 0 where
  pub known : knows s T
  pub durable : AreDurable (may_leave s) T
