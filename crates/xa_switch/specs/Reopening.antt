-- What a settled opening gives the next one.
use Rattle.std.specs.Prelude.{◌≡◌, ◌≢◌, ℕ, ◌≤◌, Bool, Option, None, Some, List, [], ◌∷◌, length, map}
use Rattle.std.specs.List.{find, range_with_len}
use Rattle.std.specs.Prelude.{◌==◌}
use Rattle.xa_base.specs.declared.limits.TheConstants.{MOST_MANAGERS}
use Rattle.xa_base.specs.Lists.{IsUpTo}
use Rattle.xa_tables.specs.ManagerTables.{Tables}
use Rattle.xa_tables.specs.Managers.{opening}
use Rattle.xa_tables.specs.Openings.{reopened}
use Rattle.xa_desk.specs.LedgerViews.{LedgerView}
use Rattle.xa_switch.specs.declared.plan.Again.{Again}
use Rattle.xa_switch.specs.Plans.{Setup, setup, IsWithinLimits}
use Rattle.xa_switch.specs.Settled.{ThreadPart, ManagerPart, ReadyPart, Settling, find_manager}

-- the ledgers of the first thread, one with each manager
abbrev pub first_ledgers : List ThreadPart → List LedgerView
first_ledgers [] = []
first_ledgers (p ∷ ps) = p.ledgers

-- of each manager whether it takes asynchronous calls
abbrev pub flags_in : Settling → List Bool
flags_in s = map (λ a. a.carries_async) (first_ledgers s.threads)

-- how many managers there are
abbrev pub managers_in : Settling → ℕ
managers_in s = length (flags_in s)

-- the tables of a manager at the end; of none, those of a manager without keys
abbrev pub last_in : Option ManagerPart → Tables
last_in None = opening []
last_in (Some p) = p.last

-- what a reopening makes of the tables of manager m
abbrev pub reopened_at : List ManagerPart → ℕ → Tables
reopened_at managers m = reopened (last_in (find_manager m managers))

-- what the next opening is made with
abbrev pub reopening : Settling → Again → Setup
reopening s n = setup n (flags_in s) (map (reopened_at s.managers) (range_with_len 1 (managers_in s)))

-- it may be opened: its numbers are within their limits, and its own
pub record MayReopen (s : Settling) (n : Again) : Type 0 where
  pub limits : IsWithinLimits n (managers_in s)
  pub own : n.opening ≢ s.opening

-- every manager is there, and no other
pub record IsWhole (s : Settling) : Type 0 where
  pub few : IsUpTo MOST_MANAGERS (managers_in s)
  pub there : (m : ℕ) → 1 ≤ m → m ≤ managers_in s → (p : ManagerPart) × (find_manager m s.managers ≡ Some p)
  pub only : (m : ℕ) (p : ManagerPart) → find_manager m s.managers ≡ Some p → IsUpTo (managers_in s) m

-- the manager with this number, with its memory
abbrev pub find_ready : ℕ → List ReadyPart → Option ReadyPart
find_ready m parts = find (λ c. c.part.number == m) parts

-- their parts
abbrev pub parts_of : List ReadyPart → List ManagerPart
parts_of parts = map (λ c. c.part) parts
