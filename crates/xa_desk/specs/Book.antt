-- How a book keeps what contracts see of a desk.
use Rattle.std.specs.Prelude.{◌≡◌, ℕ, ◌+◌, ◌*◌, ◌≤◌, [], length, vec_capacity}
use Rattle.xa_base.specs.declared.limits.TheConstants.{MOST_HANDLES, MOST_MANAGERS, MOST_REQUESTS, MOST_THREADS}
use Rattle.slab.specs.Slab.{slab_len}
use Rattle.xa_desk.specs.DeskViews.{DeskView}
use Rattle.xa_desk.specs.Slots.{IsBooks, AreKeys, kept_of, logged, planned_total}
use Rattle.xa_desk.specs.Marks.{AreKept, AreReady}
use Rattle.xa_desk.specs.declared.operation.TheConstants.{MOST_SLOTS}
use Rattle.xa_desk.specs.declared.book.Book.TheInside.{Inside}

-- what contracts see
abbrev pub desk_of : Inside → DeskView
desk_of b = record {
  thread = b.thread;
  handles = b.handles;
  ledgers = b.ledgers.items;
  events = logged b.events.items;
  kept = kept_of b.kept.items;
  drained = logged b.drained.items;
  drained_then = b.drained_then;
  requests = b.requests.items;
  completions = b.completions;
}

-- threads are numbered from 1 to 8, there are 1 to 32 handles, and there are 1 to 8 managers
pub record IsDeskWithinLimits (t h m : ℕ) : Type 0 where
  pub thread : (1 ≤ t) × (t ≤ MOST_THREADS)
  pub handles : (1 ≤ h) × (h ≤ MOST_HANDLES)
  pub managers : (1 ≤ m) × (m ≤ MOST_MANAGERS)

-- the books are in order, and each slot is found; there is a slot for each handle and one more, and no more than keys
-- tell apart, a place for each handle, and room for each end of a lane; the drained completions are counted, and what
-- is planned is within limits; and the places of what is kept are marked, and of it those of what is ready
pub record IsBook (b : Inside) : Type 0 where
  pub books : IsBooks b.ledgers.items b.slots b.kept.items (logged b.drained.items)
  pub keys : AreKeys b.ledgers.items b.rows.items b.slots
  pub slots_room :
      (slab_len b.slots ≤ b.handles + 1) × (b.handles + 1 ≤ b.slots.capacity) × (b.slots.capacity ≤ MOST_SLOTS)
  pub places : length b.kept.items ≡ b.handles
  pub drained : b.drained_now ≡ length (logged b.drained.items)
  pub planned : planned_total b.ledgers.items ≤ MOST_REQUESTS * MOST_MANAGERS
  pub limits : IsDeskWithinLimits b.thread b.handles (length b.ledgers.items)
  pub ends : (b.ends.items ≡ []) × (MOST_MANAGERS ≤ vec_capacity b.ends)
  pub kept_marks : AreKept b.kept_marks b.kept.items
  pub ready_marks : AreReady b.ready_marks b.kept.items (logged b.drained.items)
