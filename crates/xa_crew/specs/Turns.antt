-- Workers that take turns: how they go on.
use Rattle.std.specs.Prelude.{◌≡◌, ℕ, ◌-◌, ◌<◌, ◌≤◌, false, Some, List, length, map, slice_get, slice_set}
use Rattle.xa_worker.specs.declared.step.WorkerStep.{WorkerStep}
use Rattle.xa_worker.specs.WorkerSeats.{seat_of_worker}
use Rattle.xa_worker.specs.Workers.{WorkerView, SameWorker, Extends}
use Rattle.xa_worker.specs.WorkerSteps.{Stepped}
use Rattle.xa_base.specs.Lists.{Pairwise}

-- The worker is the same one in its seat, and its journal has only grown.
pub record WorkerGoesOn (old new : WorkerView) : Type 0 where
  pub same : SameWorker old new
  pub seat : seat_of_worker new ≡ seat_of_worker old
  pub journal : Extends old.journal new.journal

-- Each worker has gone on, and so the seats are the same.
pub record AllGoOn (old new : List WorkerView) : Type 0 where
  pub each : Pairwise WorkerGoesOn old new
  pub seats : map seat_of_worker new ≡ map seat_of_worker old

-- The worker did this step in its turn, and has gone on by it.
pub record HadTurn (did : WorkerStep) (old new : WorkerView) : Type 0 where
  pub stepped : Stepped false false old did new
  pub goes : WorkerGoesOn old new

-- The worker did some step in its turn.
abbrev pub HadSomeTurn : WorkerView → WorkerView → Type 0
HadSomeTurn old new = (did : WorkerStep) × HadTurn did old new

-- The worker of manager m had its turn, and the others stay.
pub record TakesTurn (m : ℕ) (did : WorkerStep) (old new : List WorkerView) : Type 0 where
  pub before : WorkerView
  pub after : WorkerView
  pub at : slice_get old (m - 1) ≡ Some before
  pub turn : HadTurn did before after
  pub rest : new ≡ slice_set old (m - 1) after

-- Who had a turn while a call waited for manager m: the manager's worker, for any manager, 0, each worker, and for a
-- number that no manager has none.
pub data TurnsFor (m : ℕ) (old new : List WorkerView) : Type 0 where
  its : (did : WorkerStep) → 1 ≤ m → m ≤ length old → TakesTurn m did old new → TurnsFor m old new
  each : m ≡ 0 → Pairwise HadSomeTurn old new → TurnsFor m old new
  none : length old < m → new ≡ old → TurnsFor m old new

-- They had their turns, and each worker has gone on.
pub record GivesTurns (m : ℕ) (old new : List WorkerView) : Type 0 where
  pub turns : TurnsFor m old new
  pub on : AllGoOn old new
