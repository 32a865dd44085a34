-- What a worker keeps, whatever it does.
use Rattle.std.specs.Prelude.{ℕ, List, map}
use Rattle.xa_tables.specs.ManagerTables.{Tables}
use Rattle.xa_lane.specs.declared.name.LaneName.{LaneName}
use Rattle.xa_lane.specs.Ends.{QueueId}
use Rattle.xa_lane.specs.EndSeats.{EndSeat, end_seat}
use Rattle.xa_worker.specs.Outgoing.{Answering}
use Rattle.xa_worker.specs.Workers.{RequestLane, WorkerView}
use Rattle.xa_worker.specs.Done.{Served}

-- of a worker: its manager, the tables that the manager was opened with, its ends of the lanes to the threads, by
-- rising thread, and its own lane
pub record WorkerSeat : Type 0 where
  pub number : ℕ
  pub first : Tables
  pub ends : List EndSeat
  pub lane : LaneName
  pub line : QueueId

-- the seat of a worker by what it holds
abbrev pub worker_seat : ℕ → Tables → List Answering → RequestLane → WorkerSeat
worker_seat m first senders receiver =
    record { number = m; first = first; ends = map end_seat senders; lane = receiver.lane; line = receiver.line }

-- that of a worker at work
abbrev pub seat_of_worker : WorkerView → WorkerSeat
seat_of_worker w = worker_seat w.number w.first w.out.senders w.receiver

-- and of one that has run
abbrev pub seat_of_done : Served → WorkerSeat
seat_of_done w = worker_seat w.number w.first w.ends w.receiver
