-- How the parts of a worker that has run are kept.
use Rattle.std.specs.Prelude.{◌≤◌}
use Rattle.xa_base.specs.declared.limits.TheConstants.{MOST_THREADS}
use Rattle.xa_worker.specs.Workers.{first_tables}
use Rattle.xa_worker.specs.Done.{Served, served, IsServed}
use Rattle.xa_worker.specs.declared.done.DoneWorker.TheInside.{Inside}

-- what contracts see of the parts
abbrev pub served_of : Inside → Served
served_of w =
    served w.number (first_tables w.given.items) w.parts.manager w.parts.receiver w.parts.ends.items
    w.parts.journal.items

-- what holds of the parts
pub record IsDone (w : Inside) : Type 0 where
  pub served : IsServed (served_of w)
  pub few : w.parts.manager.threads ≤ MOST_THREADS
