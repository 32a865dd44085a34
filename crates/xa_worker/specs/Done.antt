-- What contracts see of a worker that has run.
use Rattle.std.specs.Prelude.{◌≡◌, ℕ, ◌+◌, ◌<◌, true, List, length, map}
use Rattle.xa_tables.specs.ManagerTables.{Tables}
use Rattle.xa_tables.specs.Managers.{Managed}
use Rattle.xa_tables.specs.Histories.{of_thread}
use Rattle.xa_lane.specs.Ends.{SameReceiver, received, has_ended}
use Rattle.xa_lane.specs.Senders.{sent_at}
use Rattle.xa_worker.specs.Journal.{Entry, Follows, requests, owed}
use Rattle.xa_worker.specs.Outgoing.{Answering, SameLanes}
use Rattle.xa_worker.specs.Workers.{WorkerView, RequestLane, Extends, requests_taken, of_own_thread}

-- a worker that has run: its manager's number, the tables that the manager was given with, the manager, the lane of
-- requests, the ends of the lanes of completions, and the journal
pub record Served : Type 0 where
  pub number : ℕ
  pub first : Tables
  pub manager : Managed
  pub receiver : RequestLane
  pub ends : List Answering
  pub journal : List Entry

-- the same by its parts
abbrev pub served : ℕ → Tables → Managed → RequestLane → List Answering → List Entry → Served
served number first manager receiver ends journal =
    record { number = number; first = first; manager = manager; receiver = receiver; ends = ends; journal = journal }

-- what holds of every worker that has run
pub record IsServed (d : Served) : Type 0 where
  -- from the tables at first on the journal has the codes of its places, and the manager the tables after it
  pub follows : Follows d.first d.journal d.manager.tables
  -- the journal's requests are what was taken, in that order, each of its sender's thread
  pub taken : requests_taken d.receiver.taken ≡ map of_own_thread d.journal
  -- what was sent to thread k + 1 is what the journal owes it
  pub sent : (k : ℕ) → sent_at k d.ends ≡ owed d.number (k + 1) d.journal
  -- the end of each thread was taken
  pub ended : (s : ℕ) → s < d.manager.threads → has_ended s d.receiver.taken ≡ true
  -- one sender of requests and one lane of completions for each thread
  pub senders : d.receiver.senders ≡ d.manager.threads
  pub lanes : length d.ends ≡ d.manager.threads

-- each thread's requests in the journal are what was taken of its sender
abbrev pub IsOrdered : Served → Type 0
IsOrdered d = (s : ℕ) → of_thread (s + 1) (requests d.journal) ≡ received s d.receiver.taken

-- the worker that has run is this one: the number, the tables at first, the threads and the lanes are the same, and the
-- journal has only grown
pub record SameServed (w : WorkerView) (d : Served) : Type 0 where
  pub number : d.number ≡ w.number
  pub first : d.first ≡ w.first
  pub threads : d.manager.threads ≡ w.manager.threads
  pub receiver : SameReceiver w.receiver d.receiver
  pub lanes : SameLanes w.out.senders d.ends
  pub journal : Extends w.journal d.journal
