-- The stores of a run: what they keep before it and after it.
use Rattle.std.specs.Prelude.{◌≡◌, ℕ, ◌+◌, List, Some, length, map, slice_get}
use Rattle.xa_base.specs.Lists.{Pairwise}
use Rattle.xa_store.specs.Stores.{Keeps}
use Rattle.xa_tables.specs.ManagerTables.{Tables}
use Rattle.xa_worker.specs.Done.{Served}
use Rattle.xa_worker.specs.Stored.{IsStored}
use Rattle.xa_desk.specs.DeskViews.{DeskView}
use Rattle.xa_switch.specs.Plans.{Setup}
use Rattle.xa_switch.specs.Closing.{manager_part}
use Rattle.xa_switch.specs.Reopening.{last_in, managers_in}
use Rattle.xa_switch.specs.Settled.{Settling, find_manager}
use Rattle.xa_crew.specs.Pieces.{HasServed}
use Rattle.xa_crew.specs.Run.{HaveRun}
use Rattle.xa_crew.specs.declared.client_job.Worked.{Worked}
use Rattle.xa_crew.specs.declared.worker_job.WorkerJob.{WorkerJob}
use Rattle.xa_crew.specs.declared.worker_job.StoredWorker.{StoredWorker}

-- a store for each of these tables, at the same place, which keeps them
abbrev pub StoresKeep : {S : Type 0} → (S → Tables → Type 0) → (S → Tables → Type 0) → List Tables → List S → Type 0
StoresKeep knows may_leave tables stores = Pairwise (Keeps knows may_leave) tables stores

-- the tables that each worker's manager has at the end
abbrev pub tables_served : List Served → List Tables
tables_served done = map (λ d. d.manager.tables) done

-- The managers of the settled opening are those that these workers have run with, by rising number.
pub record HasManagers (s : Settling) (done : List Served) : Type 0 where
  pub as_many : managers_in s ≡ length done
  pub each : (k : ℕ) (d : Served) → slice_get done k ≡ Some d → find_manager (k + 1) s.managers ≡ Some (manager_part d)

-- There is a store for each manager of the settled opening, and it keeps the tables that its manager has at the end:
-- the store of manager m is at place m - 1.
pub record KeepLast {S : Type 0} (knows may_leave : S → Tables → Type 0) (s : Settling) (stores : List S) : Type 0 where
  pub as_many : length stores ≡ managers_in s
  pub each : (k : ℕ) (x : S) → slice_get stores k ≡ Some x
      → Keeps knows may_leave (last_in (find_manager (k + 1) s.managers)) x

-- The worker of this job has run, and its store keeps the tables of its manager, where it kept them before.
pub record HasServedStored {P S : Type 0} (knows may_leave : S → Tables → Type 0) (j : WorkerJob P S)
    (d : StoredWorker S) : Type 0 where
  pub served : HasServed j.worker d.done
  pub kept : IsStored (knows j.store) (may_leave j.store) j.worker
      → Keeps knows may_leave d.done.manager.tables d.store

-- the tables that they have left
abbrev pub stored_tables : {S : Type 0} → List (StoredWorker S) → List Tables
stored_tables stored = map (λ d. d.done.manager.tables) stored

-- all threads of a run of these clients have come to this
abbrev pub HaveAllRun : {C S : Type 0} → (C → DeskView → C → DeskView → Type 0) → Setup → List C → List (Worked C)
    → List (StoredWorker S) → Type 0
HaveAllRun works p clients worked stored =
    HaveRun works p clients (map (λ w. w.attended) worked) (map (λ w. w.desk) worked) (map (λ d. d.done) stored)
