-- How the parts of a desk keep what they are made with.
use Rattle.std.specs.Prelude.{◌≡◌, ◌+◌, ◌≤◌, Bool, List, [], None, length, map, replicate, vec_capacity}
use Rattle.xa_base.specs.declared.limits.TheConstants.{MOST_MANAGERS, MOST_REQUESTS}
use Rattle.xa_desk.specs.LedgerViews.{LedgerView}
use Rattle.xa_desk.specs.Lanes.{PartsView, new_ledgers}
use Rattle.xa_desk.specs.Slots.{no_keys}
use Rattle.xa_desk.specs.Book.{IsDeskWithinLimits}
use Rattle.xa_desk.specs.declared.operation.TheConstants.{MOST_SLOTS}
use Rattle.xa_desk.specs.declared.parts.DeskParts.TheInside.{Inside}

-- of each manager whether it takes asynchronous calls
abbrev pub carried : List LedgerView → List Bool
carried at = map (λ a. a.carries_async) at

-- what contracts see
abbrev pub parts_view : Inside → PartsView
parts_view p = record { thread = p.thread; handles = p.handles; plan = p.plan; use_async = carried p.ledgers.items }

-- nothing was done with any part, and there is room for all that is planned
pub record AreParts (p : Inside) : Type 0 where
  pub ledgers : p.ledgers.items ≡ new_ledgers p.plan (carried p.ledgers.items)
  pub slots : p.slots.slots ≡ []
  pub slots_room : (p.handles + 1 ≤ p.slots.capacity) × (p.slots.capacity ≤ MOST_SLOTS)
  pub rows : p.rows.items ≡ replicate (length p.ledgers.items) (no_keys p.plan)
  pub kept : p.kept.items ≡ replicate p.handles None
  pub planned : p.plan ≤ MOST_REQUESTS
  pub ends : p.ends.items ≡ []
  pub ends_room : MOST_MANAGERS ≤ vec_capacity p.ends
  pub limits : IsDeskWithinLimits p.thread p.handles (length p.ledgers.items)
