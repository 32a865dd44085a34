-- What an opening gives: a desk for each thread and a worker for each manager, which share their lanes.
use Rattle.std.specs.Prelude.{◌≡◌, ℕ, ◌+◌, ◌≤◌, Bool, List, [], length, map, slice_get, Some, vec_capacity}
use Rattle.std.specs.List.{All}
use Rattle.xa_base.specs.declared.limits.TheConstants.{MOST_THREADS}
use Rattle.xa_words.specs.declared.request.Request.{Request}
use Rattle.xa_words.specs.declared.request.Completion.{Completion}
use Rattle.xa_lane.specs.Ends.{Sending, Receiving}
use Rattle.xa_desk.specs.DeskViews.{DeskView}
use Rattle.xa_desk.specs.Lanes.{PartsView, AreEnds, AreUnused, new_desk}
use Rattle.xa_worker.specs.Outgoing.{Answering}
use Rattle.xa_worker.specs.Workers.{Reserved, RequestLane, WorkerView, new_worker}
use Rattle.xa_tables.specs.ManagerTables.{Tables}
use Rattle.xa_tables.specs.Openings.{IsOpening}
use Rattle.xa_tables.specs.Managers.{Managed}
use Rattle.xa_switch.specs.Columns.{Each}
use Rattle.xa_switch.specs.Plans.{Setup, IsWithinLimits, manager_room, new_manager, completion_room}
use Rattle.xa_switch.specs.Lanes.{AreNewLanes, IsRequestEnd, IsRequestSender, IsCompletionEnd, IsCompletionSender}
use Rattle.xa_switch.specs.declared.plan.Again.{Again}
use Rattle.xa_switch.specs.declared.opening.layout.Layout.{Layout}

-- what the desk of this thread is made with
abbrev pub desk_parts : Again → List Bool → ℕ → PartsView
desk_parts n use_async thread =
    record { thread = thread; handles = n.handles; plan = n.requests; use_async = use_async }

-- what the worker of this manager is made with
abbrev pub worker_parts : Again → ℕ → Reserved
worker_parts n manager = record { number = manager; room = manager_room n }

-- the memory and the lanes of an opening with these numbers and flags, of which nothing is put together yet
pub record IsLaidOut (l : Layout) : Type 0 where
  pub limits : IsWithinLimits l.numbers (length l.use_async.items)
  pub threads : length l.desk_parts.items ≡ l.numbers.threads
  pub managers : length l.worker_parts.items ≡ length l.use_async.items
  pub desk_parts_ : Each (λ k x. x ≡ desk_parts l.numbers l.use_async.items (k + 1)) l.desk_parts.items
  pub worker_parts_ : Each (λ k x. x ≡ worker_parts l.numbers (k + 1)) l.worker_parts.items
  pub requests : AreNewLanes l.numbers.opening 0 l.numbers.threads (length l.use_async.items) l.numbers.queue
      (map (λ c. c.items) l.requests.columns.items) l.requests.receivers.items
  pub completions : AreNewLanes l.numbers.opening 1 (length l.use_async.items) l.numbers.threads
      (completion_room l.numbers (length l.use_async.items)) (map (λ c. c.items) l.completions.columns.items)
      l.completions.receivers.items
  pub desks : (l.desks.items ≡ []) × (length l.desk_parts.items ≤ vec_capacity l.desks)
  pub workers : (l.workers.items ≡ []) × (length l.worker_parts.items ≤ vec_capacity l.workers)

-- part k, column k and receiver k are of one thread, and nothing was sent on the lanes and taken from them
abbrev pub DesksFit : List PartsView → List (List (Sending Request)) → List (Receiving Completion) → Type 0
DesksFit parts columns receivers = (k : ℕ) (p : PartsView) (c : List (Sending Request)) (r : Receiving Completion)
    → slice_get parts k ≡ Some p → slice_get columns k ≡ Some c → slice_get receivers k ≡ Some r
    → AreEnds p.thread (length p.use_async) c r × AreUnused c r

-- manager k has the room of part k and a lane for each of its at most 8 threads in receiver k and in column k, and
-- nothing was taken from them and sent on them
pub record WorkersFit (parts : List Reserved) (managers : List Managed) (receivers : List RequestLane)
    (columns : List (List Answering)) : Type 0 where
  pub memory : (k : ℕ) (p : Reserved) (m : Managed) → slice_get parts k ≡ Some p → slice_get managers k ≡ Some m
      → (m.room ≡ p.room) × (m.threads ≤ MOST_THREADS)
  pub requests : (k : ℕ) (m : Managed) (r : RequestLane) → slice_get managers k ≡ Some m
      → slice_get receivers k ≡ Some r
      → (r.senders ≡ m.threads) × (r.taken ≡ [])
  pub completions : (k : ℕ) (m : Managed) (c : List Answering) → slice_get managers k ≡ Some m
      → slice_get columns k ≡ Some c → (length c ≡ m.threads) × All (λ s. s.sent ≡ []) c

-- desk k is made of part k, column k and receiver k
pub record IsDeskOf (parts : List PartsView) (columns : List (List (Sending Request)))
    (receivers : List (Receiving Completion)) (k : ℕ) (d : DeskView) : Type 0 where
  pub part : PartsView
  pub requests : List (Sending Request)
  pub completions : Receiving Completion
  pub part_at : slice_get parts k ≡ Some part
  pub requests_at : slice_get columns k ≡ Some requests
  pub completions_at : slice_get receivers k ≡ Some completions
  pub made : d ≡ new_desk part requests completions

-- worker k is made of part k, manager k, receiver k and column k
pub record IsWorkerOf (parts : List Reserved) (managers : List Managed) (receivers : List RequestLane)
    (columns : List (List Answering)) (k : ℕ) (w : WorkerView) : Type 0 where
  pub part : Reserved
  pub manager : Managed
  pub requests : RequestLane
  pub senders : List Answering
  pub part_at : slice_get parts k ≡ Some part
  pub manager_at : slice_get managers k ≡ Some manager
  pub requests_at : slice_get receivers k ≡ Some requests
  pub senders_at : slice_get columns k ≡ Some senders
  pub made : w ≡ new_worker part.number manager requests senders

-- the desk of thread t + 1 with the setup's fields, over new ends of the lanes to each manager and of its own lane
pub record IsNewDesk (s : Setup) (t : ℕ) (d : DeskView) : Type 0 where
  pub made : d ≡ new_desk (desk_parts s.numbers s.use_async (t + 1)) d.requests d.completions
  pub managers : length d.requests ≡ s.managers
  pub requests : Each (IsRequestSender s.numbers.opening s.numbers.queue t) d.requests
  pub completions : IsCompletionEnd s.numbers.opening s.managers (completion_room s.numbers s.managers) t d.completions

-- the worker of manager m + 1 with the tables that it begins with, over new ends of its own lane and of the lanes to
-- each thread
pub record IsNewWorker (s : Setup) (m : ℕ) (w : WorkerView) : Type 0 where
  pub first : Tables
  pub begins : slice_get s.first m ≡ Some first
  pub made : w ≡ new_worker (m + 1) (new_manager s.numbers first) w.receiver w.out.senders
  pub threads : length w.out.senders ≡ s.numbers.threads
  pub requests : IsRequestEnd s.numbers.opening s.numbers.threads s.numbers.queue m w.receiver
  pub completions : Each (IsCompletionSender s.numbers.opening (completion_room s.numbers s.managers) m) w.out.senders

-- thread t + 1 sends to manager m + 1 on the lane that the manager's worker receives from, and the worker sends on the
-- lane that the thread's desk receives from
pub record ShareNewLanes (t m : ℕ) (d : DeskView) (w : WorkerView) : Type 0 where
  pub asking : Sending Request
  pub asks : slice_get d.requests m ≡ Some asking
  pub asked : asking.line ≡ w.receiver.line
  pub answering : Answering
  pub answers : slice_get w.out.senders t ≡ Some answering
  pub answered : answering.line ≡ d.completions.line

-- a desk for each thread and a worker for each manager, by rising number, that have done nothing, and each desk and
-- each worker share two lanes; the managers begin as at an opening
pub record AreOfOneOpening (s : Setup) (ds : List DeskView) (ws : List WorkerView) : Type 0 where
  pub threads : length ds ≡ s.numbers.threads
  pub managers : length ws ≡ s.managers
  pub flags : length s.use_async ≡ s.managers
  pub tables : length s.first ≡ s.managers
  pub desks : Each (IsNewDesk s) ds
  pub workers : Each (IsNewWorker s) ws
  pub together : (t m : ℕ) (d : DeskView) (w : WorkerView) → slice_get ds t ≡ Some d → slice_get ws m ≡ Some w
      → ShareNewLanes t m d w
  pub begins : All IsOpening s.first
