-- What contracts see of a worker.
use Rattle.std.specs.Prelude.{◌≡◌, ◌≢◌, ◌⊎◌, ℕ, ◌+◌, ◌<◌, true, List, [], ◌∷◌, ◌++◌, length, map, Option, Some, None}
use Rattle.xa_words.specs.declared.request.Request.{Request}
use Rattle.xa_tables.specs.ManagerTables.{Tables}
use Rattle.xa_tables.specs.Managers.{Managed, opening}
use Rattle.xa_lane.specs.declared.parcel.Parcel.{Parcel}
use Rattle.xa_lane.specs.Ends.{Receiving, SameReceiver, has_ended}
use Rattle.xa_lane.specs.Closing.{items_in}
use Rattle.xa_worker.specs.Journal.{Entry, Follows, owed}
use Rattle.xa_worker.specs.Outgoing.{Answering, Outgoing, SameLanes, put_to}

-- the memory of a worker: its manager's number, and for how many requests there is room
pub record Reserved : Type 0 where
  pub number : ℕ
  pub room : ℕ

-- the tables of the first of these managers, each with its number; where there is none, those of a manager without keys
abbrev pub first_tables : List (ℕ × Managed) → Tables
first_tables [] = opening []
first_tables (p ∷ rest) = p.1.tables

-- the lane that a worker takes requests from
abbrev pub RequestLane : Type 0
RequestLane = Receiving Request

-- a worker: its manager's number, the tables that the manager was given with, the manager, the lane of requests, the
-- lanes of completions, the journal, and a request that was taken and can't be carried out, with its sender's number
pub record WorkerView : Type 0 where
  pub number : ℕ
  pub first : Tables
  pub manager : Managed
  pub receiver : RequestLane
  pub out : Outgoing
  pub journal : List Entry
  pub held : Option (ℕ × Request)

-- a request with its sender's thread: sender s is that of thread s + 1
abbrev pub of_sender_thread : ℕ × Request → ℕ × Request
of_sender_thread p = (p.0 + 1, p.1)

-- what was taken, oldest first, each request with its sender's thread
abbrev pub requests_taken : List (Parcel Request) → List (ℕ × Request)
requests_taken taken = map of_sender_thread (items_in taken)

-- the request of an entry, with the thread that it names
abbrev pub of_own_thread : Entry → ℕ × Request
of_own_thread e = (e.0.thread, e.0)

-- a request that is held, with its sender's thread
abbrev pub in_hand : Option (ℕ × Request) → List (ℕ × Request)
in_hand None = []
in_hand (Some p) = of_sender_thread p ∷ []

-- the request of sender s names another thread than its sender's, or came where the manager has no room
abbrev pub IsUnfit : ℕ → Request → ℕ → Type 0
IsUnfit s r room = (r.thread ≢ s + 1) ⊎ (room ≡ 0)

-- a request that is held can't be carried out
abbrev pub IsHeldUnfit : Option (ℕ × Request) → ℕ → Type 0
IsHeldUnfit None room = Unit {0}
IsHeldUnfit (Some p) room = IsUnfit p.0 p.1 room

-- what holds of every worker
pub record IsTiedWorker (w : WorkerView) : Type 0 where
  -- from the tables at first on the journal has the codes of its places, and the manager the tables after it
  pub follows : Follows w.first w.journal w.manager.tables
  -- the journal's requests, then one that is held, are what was taken, in that order, and each in the journal is of its
  -- sender's thread
  pub taken : requests_taken w.receiver.taken ≡ map of_own_thread w.journal ++ in_hand w.held
  -- what was sent to thread k + 1, then what waits to be sent to it, is what the journal owes it
  pub sent : (k : ℕ) → put_to k w.out ≡ owed w.number (k + 1) w.journal
  -- a request that is held can't be carried out
  pub held : IsHeldUnfit w.held w.manager.room
  -- one sender of requests and one lane of completions for each thread
  pub senders : w.receiver.senders ≡ w.manager.threads
  pub lanes : length w.out.senders ≡ w.manager.threads

-- the number, the tables at first, the threads and the lanes stay
pub record SameWorker (w w' : WorkerView) : Type 0 where
  pub number : w'.number ≡ w.number
  pub first : w'.first ≡ w.first
  pub threads : w'.manager.threads ≡ w.manager.threads
  pub receiver : SameReceiver w.receiver w'.receiver
  pub lanes : SameLanes w.out.senders w'.out.senders

-- the journal only grows
abbrev pub Extends : List Entry → List Entry → Type 0
Extends journal journal' = (more : List Entry) × (journal' ≡ journal ++ more)

-- each thread's end was taken, and nothing is held
pub record IsFinishedWorker (w : WorkerView) : Type 0 where
  pub held : w.held ≡ None
  pub waiting : w.out.waiting ≡ []
  pub ended : (s : ℕ) → s < w.manager.threads → has_ended s w.receiver.taken ≡ true

-- a worker that has taken and sent nothing
abbrev pub new_worker : ℕ → Managed → RequestLane → List Answering → WorkerView
new_worker number manager receiver senders =
    record {
      number = number;
      first = manager.tables;
      manager = manager;
      receiver = receiver;
      out = record { senders = senders; waiting = [] };
      journal = [];
      held = None;
    }
