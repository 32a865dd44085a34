-- How the lanes of an opening are closed.
use Rattle.std.specs.Prelude.{◌≡◌, ℕ, ◌-◌, ◌<◌, ◌≤◌, List, [], ◌∷◌, ◌++◌, length, map, replicate, slice_index_or}
use Rattle.std.specs.Prelude.{vec_capacity}
use Rattle.std.specs.List.{All}
use Rattle.xa_base.specs.declared.limits.TheConstants.{MOST_SENDERS}
use Rattle.xa_words.specs.declared.request.Completion.{Completion}
use Rattle.xa_lane.specs.Ends.{Sending, Receiving}
use Rattle.xa_lane.specs.Closing.{HasAllEnds, Conserves, LeavesNothing, AreKnown, items_in}
use Rattle.xa_tables.specs.Histories.{History}
use Rattle.xa_desk.specs.Ended.{EndedView}
use Rattle.xa_worker.specs.Workers.{RequestLane}
use Rattle.xa_worker.specs.Done.{Served}
use Rattle.xa_switch.specs.Columns.{put_row}
use Rattle.xa_switch.specs.Settled.{ThreadPart, ManagerPart, ReadyPart, Settling}
use Rattle.xa_switch.specs.Belonging.{first_opening}
use Rattle.xa_switch.specs.declared.settling.gathered.Gathered.{Gathered}

-- one row after another, each element at the end of its column
abbrev pub dealt : {X : Type 0} → List (List X) → List (List X) → List (List X)
dealt cs [] = cs
dealt cs (row ∷ rows) = dealt (put_row cs row) rows

-- the column at a place
abbrev pub column : {X : Type 0} → List (List X) → ℕ → List X
column cs k = slice_index_or cs k []

-- these are all the ends of the receiver's lane, and of no other
pub record IsClosable {T : Type 0} (r : Receiving T) (ends : List (Sending T)) : Type 0 where
  pub lanes : All (λ e. e.lane ≡ r.lane) ends
  pub lines : All (λ e. e.line ≡ r.line) ends
  pub whole : HasAllEnds r.senders ends

-- the lane was closed with these ends: of each, what was taken and what was left is what it sent
pub record IsClosed {T : Type 0} (r : Receiving T) (ends : List (Sending T)) : Type 0 where
  pub left : List (ℕ × T)
  pub whole : HasAllEnds r.senders ends
  pub conserves : Conserves ends r.taken left
  pub nothing : LeavesNothing ends r.taken left
  pub known : AreKnown r.senders r.taken left

-- a lane with its place among the lanes
abbrev pub desk_lane : EndedView → ℕ × Receiving Completion
desk_lane d = (d.thread - 1, d.completions)

abbrev pub worker_lane : Served → ℕ × RequestLane
worker_lane w = (w.number - 1, w.receiver)

-- what becomes part of a settled opening
abbrev pub thread_part : EndedView → ThreadPart
thread_part d = record { thread = d.thread; ledgers = d.ledgers }

-- what a worker took from its lane, in order
abbrev pub taken_by : Served → History
taken_by w = map (λ p. p.1) (items_in w.receiver.taken)

abbrev pub manager_part : Served → ManagerPart
manager_part w =
    record { number = w.number; first = w.first; taken = taken_by w; journal = w.journal; last = w.manager.tables }

abbrev pub ready_part : Served → ReadyPart
ready_part w = record { part = manager_part w; reserved = w.manager.reserved }

abbrev pub settling : List EndedView → List Served → Settling
settling ds ws =
    record { opening = first_opening ds ws; threads = map thread_part ds; managers = map manager_part ws }

-- pieces with these rows of ends, lanes and parts were taken in, of the n that there is room for: the rows were dealt
-- into eight columns
pub record HasTaken {E R P : Type 0} (n : ℕ) (rows : List (List E)) (ls : List (ℕ × R)) (ps : List P)
    (r : Gathered E R P) : Type 0 where
  pub columns : map (λ c. c.items) r.columns.items ≡ dealt (replicate MOST_SENDERS []) rows
  pub deep : All (λ c. n ≤ vec_capacity c) r.columns.items
  pub lanes : r.lanes.items ≡ ls
  pub lanes_room : n ≤ vec_capacity r.lanes
  pub parts : r.parts.items ≡ ps
  pub parts_room : n ≤ vec_capacity r.parts

-- none was taken in yet
abbrev pub HasRoomForPieces : {E R P : Type 0} → ℕ → Gathered E R P → Type 0
HasRoomForPieces {E} {R} {P} n r = HasTaken n [] [] [] r

-- there is room for one piece more
pub record HasRoomForPiece {E R P : Type 0} (r : Gathered E R P) : Type 0 where
  pub columns : All (λ c. length c.items < vec_capacity c) r.columns.items
  pub lanes : length r.lanes.items < vec_capacity r.lanes
  pub parts : length r.parts.items < vec_capacity r.parts

-- one piece more was taken in: its row of ends was dealt, and its lane and its part come last
pub record TakesInPiece {E R P : Type 0} (row : List E) (lane : ℕ × R) (part : P) (old new : Gathered E R P)
    : Type 0 where
  pub columns : map (λ c. c.items) new.columns.items ≡ put_row (map (λ c. c.items) old.columns.items) row
  pub depth : map (λ c. vec_capacity c) new.columns.items ≡ map (λ c. vec_capacity c) old.columns.items
  pub lanes : new.lanes.items ≡ old.lanes.items ++ lane ∷ []
  pub lanes_room : vec_capacity new.lanes ≡ vec_capacity old.lanes
  pub parts : new.parts.items ≡ old.parts.items ++ part ∷ []
  pub parts_room : vec_capacity new.parts ≡ vec_capacity old.parts
