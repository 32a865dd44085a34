-- How an ended desk keeps what contracts see of it.
use Rattle.std.specs.Prelude.{◌≤◌, length}
use Rattle.xa_base.specs.declared.limits.TheConstants.{MOST_MANAGERS, MOST_THREADS}
use Rattle.xa_desk.specs.Ended.{EndedView, IsEndedDesk}
use Rattle.xa_desk.specs.Slots.{logged}
use Rattle.xa_desk.specs.declared.ended.EndedDesk.TheInside.{Inside}

-- what contracts see
abbrev pub ended_of : Inside → EndedView
ended_of e = record {
  thread = e.thread;
  ledgers = e.ledgers.items;
  drained = logged e.drained.items;
  requests = e.requests.items;
  completions = e.completions;
}

-- the threads and the managers are within the limits
pub record AreEndedParts (e : Inside) : Type 0 where
  pub known : IsEndedDesk (ended_of e)
  pub thread : (1 ≤ e.thread) × (e.thread ≤ MOST_THREADS)
  pub managers : (1 ≤ length e.ledgers.items) × (length e.ledgers.items ≤ MOST_MANAGERS)
