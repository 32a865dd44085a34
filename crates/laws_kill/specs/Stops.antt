-- Desks and workers that are stopped between two of their steps, and the crash that this is.
use Rattle.std.specs.Prelude.{◌≡◌, ℕ, ◌-◌, ◌==◌, nat_eq, None, List, [], length, map}
use Rattle.std.specs.List.{All, Contains, IsDistinct, find, range_with_len}
use Rattle.xa_base.specs.Lists.{Begins}
use Rattle.xa_lane.specs.Senders.{sent_at}
use Rattle.xa_tables.specs.ManagerTables.{Tables}
use Rattle.xa_tables.specs.Histories.{of_thread}
use Rattle.xa_tables.specs.Openings.{IsOpening}
use Rattle.xa_desk.specs.DeskViews.{DeskView, collected_from}
use Rattle.xa_desk.specs.Lanes.{IsDesk, arrived}
use Rattle.xa_worker.specs.Journal.{requests}
use Rattle.xa_worker.specs.Workers.{IsTiedWorker, WorkerView}
use Rattle.xa_worker.specs.Stored.{LeavesABeginning}
use Rattle.xa_switch.specs.Plans.{Setup}
use Rattle.xa_switch.specs.Settled.{ThreadPart}
use Rattle.laws_kill.specs.Crashes.{Crash, CrashedManager}

-- a worker, the tables that a crash may leave of its manager now, and that they leave a beginning of its journal
pub record StoppedWorker : Type 0 where
  pub worker : WorkerView
  pub found : Tables
  pub leaves : LeavesABeginning worker found

-- what is left of its manager
abbrev pub stopped_manager : StoppedWorker → CrashedManager
stopped_manager s =
    record { number = s.worker.number; first = s.worker.first; kept = s.leaves.kept; found = s.found }

-- what a thread had sent and collected
abbrev pub stopped_thread : DeskView → ThreadPart
stopped_thread d = record { thread = d.thread; ledgers = d.ledgers }

abbrev pub stopped : ℕ → List DeskView → List StoppedWorker → Crash
stopped opening desks workers =
    record { opening = opening; threads = map stopped_thread desks; managers = map stopped_manager workers }

-- What the two lanes between a desk and a worker keep to at any moment: what was taken was put there before.
pub record LanesCarry (d : DeskView) (w : WorkerView) : Type 0 where
  -- the worker has entered a beginning of what the desk has put to it
  pub requests_ : Begins (of_thread d.thread (requests w.journal)) (sent_at (w.number - 1) d.requests)
  -- and each completion of the manager that came to the desk was put there by the worker
  pub completions : All (λ x. x.manager ≡ w.number → Contains (sent_at (d.thread - 1) w.out.senders) x)
      (arrived d.completions.taken)

-- All desks and workers of an opening with this setup, by rising number, between two of their steps: what holds of each
-- of them then, and what the lanes keep to.
pub record AreStopped (p : Setup) (desks : List DeskView) (workers : List StoppedWorker) : Type 0 where
  pub threads : map (λ d. d.thread) desks ≡ range_with_len 1 p.numbers.threads
  pub managers : map (λ s. s.worker.number) workers ≡ range_with_len 1 p.managers
  pub first : map (λ s. s.worker.first) workers ≡ p.first
  pub ledgers : All (λ d. length d.ledgers ≡ p.managers) desks
  -- of the desks
  pub tied : All IsDesk desks
  pub once : All (λ d. (m : ℕ) → IsDistinct nat_eq (map (λ q. q.0) (collected_from d.ledgers m))) desks
  -- of the workers: each request is of a thread that is there
  pub opened : All (λ s. IsOpening s.worker.first) workers
  pub follows : All (λ s. IsTiedWorker s.worker) workers
  pub own : (t : ℕ) → find (λ d. d.thread == t) desks ≡ None
      → All (λ s. of_thread t (requests s.worker.journal) ≡ []) workers
  -- of the lanes
  pub lanes : All (λ d. All (λ s. LanesCarry d s.worker) workers) desks
