-- How the parts of a worker are kept.
use Rattle.std.specs.Prelude.{◌≡◌, ℕ, ◌+◌, ◌≤◌, ◌<◌, Bool, true, false, [], List, length, get_or, vec_capacity}
use Rattle.xa_base.specs.declared.limits.TheConstants.{MOST_THREADS}
use Rattle.xa_lane.specs.Ends.{has_ended}
use Rattle.xa_worker.specs.Workers.{WorkerView, IsTiedWorker, first_tables}
use Rattle.xa_worker.specs.declared.worker.Worker.TheInside.{Inside}

-- the first n are all set
abbrev pub AreSet : ℕ → List Bool → Type 0
AreSet n marks = (k : ℕ) → k < n → get_or marks k false ≡ true

-- what contracts see of the parts
abbrev pub working_of : Inside → WorkerView
working_of w = record {
  number = w.number;
  first = first_tables w.given.items;
  manager = w.manager;
  receiver = w.receiver;
  out = w.out;
  journal = w.journal.items;
  held = w.held;
}

-- what holds of the parts
pub record IsWorker (w : Inside) : Type 0 where
  pub tied : IsTiedWorker (working_of w)
  -- the journal has room for what the manager has
  pub room : length w.journal.items + w.manager.room ≤ vec_capacity w.journal
  -- which threads' ends were taken
  pub marks : length w.ended ≡ MOST_THREADS
  pub ended : (s : ℕ) → s < MOST_THREADS → get_or w.ended s false ≡ has_ended s w.receiver.taken
  pub few : w.manager.threads ≤ MOST_THREADS
  -- room for the ends of the lanes
  pub none : w.ends.items ≡ []
  pub enough : MOST_THREADS ≤ vec_capacity w.ends
