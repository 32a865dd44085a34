-- The stores of an opening that is opened again.
use Rattle.std.specs.Prelude.{◌≡◌, ◌⊎◌, ℕ, ◌+◌, List, Some, length, slice_get}
use Rattle.xa_store.specs.Stores.{Keeps}
use Rattle.xa_tables.specs.ManagerTables.{Tables}
use Rattle.xa_tables.specs.Openings.{reopened}
use Rattle.xa_switch.specs.Reopening.{last_in, managers_in}
use Rattle.xa_switch.specs.Settled.{Settling, find_manager}

module _ {S : Type 0} (knows may_leave : S → Tables → Type 0) where
  -- it keeps these tables, or what a reopening makes of them
  abbrev pub KeepsEither : Tables → S → Type 0
  KeepsEither T s = Keeps knows may_leave T s ⊎ Keeps knows may_leave (reopened T) s

  -- a store that keeps the tables of one opening keeps then what the next one begins with
  abbrev pub Reopens : S → S → Type 0
  Reopens s s' = (T : Tables) → KeepsEither T s → Keeps knows may_leave (reopened T) s'

  -- it keeps as much as before
  abbrev pub KeepsAsMuch : S → S → Type 0
  KeepsAsMuch s s' = (T : Tables) → KeepsEither T s → KeepsEither T s'

  -- There is a store for each manager of the settled opening, and it keeps the tables that its manager has at the end,
  -- or what a reopening makes of them: the store of manager m is at place m - 1.
  pub record KeepOne (s : Settling) (stores : List S) : Type 0 where
    pub as_many : length stores ≡ managers_in s
    pub each : (k : ℕ) (x : S) → slice_get stores k ≡ Some x → KeepsEither (last_in (find_manager (k + 1) s.managers)) x
