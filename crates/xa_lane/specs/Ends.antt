-- What a contract sees of the ends of a lane.
use Rattle.std.specs.Prelude.{◌≡◌, ℕ, zero, suc, Bool, true, false, ◌+◌, ◌≤◌, ◌<◌, ◌^◌, ◌-◌, min, List, [], ◌∷◌, ◌++◌}
use Rattle.std.specs.Prelude.{length, Option, Some, None}
use Rattle.xa_base.specs.declared.limits.TheConstants.{MOST_QUEUED, MOST_SENDERS}
use Rattle.atomic_table.specs.Seated.{TableId}
use Rattle.crossbeam_queue.specs.declared.array_queue.Slotted.{Slotted}
use Rattle.xa_lane.specs.Order.{of_sender}
use Rattle.xa_lane.specs.declared.parcel.Parcel.{Parcel}
use Rattle.xa_lane.specs.declared.parcel.Taken.{Taken}
use Rattle.xa_lane.specs.declared.parcel.Taken.TheVariants.{Item, EndOf, Empty}
use Rattle.xa_lane.specs.declared.name.LaneName.{LaneName}

-- which queue it is
abbrev pub QueueId : Type 0
QueueId = TableId

-- a sender: its lane's name, which queue the lane is, how many parcels the lane holds, the sender's number, what it has
-- sent, oldest first, and its full moments
pub record Sending (T : Type 0) : Type 0 where
  pub lane : LaneName
  pub line : QueueId
  pub capacity : ℕ
  pub index : ℕ
  pub sent : List T
  pub full : ℕ

-- a receiver: its lane, how many senders the lane has, what was taken, oldest first, its quiet moments, and how much
-- had been taken at the last of them
pub record Receiving (T : Type 0) : Type 0 where
  pub lane : LaneName
  pub line : QueueId
  pub capacity : ℕ
  pub senders : ℕ
  pub taken : List (Parcel T)
  pub quiet : ℕ
  pub taken_then : ℕ

-- the same of a queue
abbrev pub line_of : {S D Q A : Type 0} → Slotted S D Q A → QueueId
line_of q = q.table.shared.table_id

-- a count of 64 bits stays at its last value
abbrev pub at_most_counted : ℕ → ℕ
at_most_counted n = min n (2 ^ 64 - 1)

-- one moment more; the counts stand alone, since a push or a pop that the queue refuses leaves what its pass knows as
-- it was, and so no clause can tell that there was one
abbrev pub counted : ℕ → ℕ
counted n = at_most_counted (n + 1)

-- a lane has 1 to 8 senders and holds 1 to 64 parcels
abbrev pub IsLaneSize : ℕ → ℕ → Type 0
IsLaneSize senders capacity = (1 ≤ senders) × (senders ≤ MOST_SENDERS) × (1 ≤ capacity) × (capacity ≤ MOST_QUEUED)

module _ {T : Type 0} where
  abbrev pub parcel : ℕ → Option T → Parcel T
  parcel p i = record { from = p; item = i }

  -- the items among marks
  abbrev pub somes : List (Option T) → List T
  somes [] = []
  somes (Some y ∷ xs) = y ∷ somes xs
  somes (None ∷ xs) = somes xs

  -- the items of sender p
  abbrev pub received : ℕ → List (Parcel T) → List T
  received p parcels = somes (of_sender p parcels)

  -- whether an end mark is there
  abbrev pub has_mark : List (Option T) → Bool
  has_mark [] = false
  has_mark (Some y ∷ xs) = has_mark xs
  has_mark (None ∷ xs) = true

  -- whether the end mark of sender p is there
  abbrev pub has_ended : ℕ → List (Parcel T) → Bool
  has_ended p parcels = has_mark (of_sender p parcels)

module _ {T : Type 0} where
  -- the same sender, whatever it has sent
  abbrev pub SameSender : Sending T → Sending T → Type 0
  SameSender s s' = (s'.lane ≡ s.lane) × (s'.line ≡ s.line) × (s'.capacity ≡ s.capacity) × (s'.index ≡ s.index)

  -- the same receiver, whatever it has taken
  abbrev pub SameReceiver : Receiving T → Receiving T → Type 0
  SameReceiver r r' = (r'.lane ≡ r.lane) × (r'.line ≡ r.line) × (r'.capacity ≡ r.capacity) × (r'.senders ≡ r.senders)

  -- what is taken of sender s: an item, or its end mark
  abbrev pub taken_of : ℕ → Option T → Taken T
  taken_of s (Some x) = Item s x
  taken_of s None = EndOf s

  -- what a take answers where this parcel, if any, was at the front
  abbrev pub answer_of : Option (Parcel T) → Taken T
  answer_of (Some p) = taken_of p.from p.item
  answer_of None = Empty

  -- what each answer says of the receiver: a parcel of one of its senders was taken, or a quiet moment was counted
  abbrev pub Took : Receiving T → Taken T → Receiving T → Type 0
  Took r (Item s x) r' = (s < r.senders) × (r' ≡ record r { taken = r.taken ++ parcel s (Some x) ∷ [] })
  Took r (EndOf s) r' = (s < r.senders) × (r' ≡ record r { taken = r.taken ++ parcel s None ∷ [] })
  Took r Empty r' = r' ≡ record r { quiet = counted r.quiet; taken_then = at_most_counted (length r.taken) }

  -- a sender that has sent nothing
  abbrev pub new_sender : LaneName → QueueId → ℕ → ℕ → Sending T
  new_sender lane line capacity index =
      record { lane = lane; line = line; capacity = capacity; index = index; sent = []; full = 0 }

  -- senders 0 to n - 1, that have sent nothing
  abbrev pub new_senders : LaneName → QueueId → ℕ → ℕ → List (Sending T)
  new_senders lane line capacity zero = []
  new_senders lane line capacity (suc n) = new_senders lane line capacity n ++ new_sender lane line capacity n ∷ []

  -- a receiver that has taken nothing
  abbrev pub new_receiver : LaneName → QueueId → ℕ → ℕ → Receiving T
  new_receiver lane line capacity senders =
      record { lane = lane; line = line; capacity = capacity; senders = senders; taken = []; quiet = 0; taken_then = 0 }
