-- What a coordinator asks of the worker of its log, and what it is told.
use Rattle.std.specs.Prelude.{◌≡◌, ◌⊎◌, ◌≤◌, ℕ, Bool, true, false, not, ◌&&◌, List, [], ◌∷◌, ◌++◌, map, Some, None}
use Rattle.std.specs.Prelude.{is_some, is_none}
use Rattle.std.specs.List.{filter}
use Rattle.std.specs.Map.{keys_of}
use Rattle.std.specs.FinMap.{from_entries}
use Rattle.std.specs.HashMap.{HashMap, hash_map_len, spare}
use Rattle.xa_words.specs.Tran.{TranName}
use Rattle.xa_log.specs.Log.{LogState, Records, is_among, record_in}
use Rattle.xa_log.specs.declared.log.CommitRecord.{CommitRecord}
use Rattle.xa_lane.specs.Ends.{Sending, Receiving, SameReceiver, parcel}
use Rattle.xa_lane.specs.Senders.{with_item, but_full}
use Rattle.xa_log_shared.specs.declared.ask.LogRequest.{LogRequest}
use Rattle.xa_log_shared.specs.declared.ask.LogRequest.TheVariants.{Append, Forget}
use Rattle.xa_log_shared.specs.declared.ask.AppendAnswer.{AppendAnswer}
use Rattle.xa_log_shared.specs.declared.ask.AppendAnswer.TheVariants.{Taken, Refused, Unknown}

-- the lane to the worker, and the lane from it
abbrev pub LaneToWorker : Type 0
LaneToWorker = Sending LogRequest

abbrev pub LaneFromWorker : Type 0
LaneFromWorker = Receiving AppendAnswer

-- the same as the worker has it
abbrev pub Asked : Type 0
Asked = Receiving LogRequest

-- the records that a coordinator keeps
module _ {S : Type 0} where
  abbrev pub own_records : HashMap TranName (List Bool) S → Records
  own_records own = from_entries own.entries

  -- a coordinator's log: its own records, and how many of its appends were refused
  abbrev pub client_state : HashMap TranName (List Bool) S → ℕ → LogState
  client_state own failures = record { records = own_records own; failures = failures }

  -- there is no room for one more: there are as many as there may be, or the table has no spare place
  abbrev pub HasNoRoomForMore : ℕ → HashMap TranName (List Bool) S → Type 0
  HasNoRoomForMore room own = (room ≤ hash_map_len own) ⊎ (spare own ≡ 0)

-- the record of this transaction, with these managers
abbrev pub decision : TranName → List Bool → CommitRecord
decision tran managers = record { tran = tran; yes = managers }

-- an answer was taken, and nothing else
abbrev pub TakesAnswer : AppendAnswer → LaneFromWorker → LaneFromWorker → Type 0
TakesAnswer answer from from' =
    SameReceiver from from' × ((s : ℕ) × (from'.taken ≡ from.taken ++ parcel s (Some answer) ∷ []))

-- the worker's end mark was taken, and nothing else
abbrev pub TakesEnd : LaneFromWorker → LaneFromWorker → Type 0
TakesEnd from from' = SameReceiver from from' × ((s : ℕ) × (from'.taken ≡ from.taken ++ parcel s None ∷ []))

-- what was sent is this, and the lane is the same
abbrev pub Sends : LogRequest → LaneToWorker → LaneToWorker → Type 0
Sends ask to to' = but_full to' ≡ but_full (with_item ask to)

-- what is answered was taken from the worker; or it is unknown, since the worker has ended its lane
abbrev pub IsWorkersAnswer : AppendAnswer → LaneFromWorker → LaneFromWorker → Type 0
IsWorkersAnswer Unknown from from' = TakesAnswer Unknown from from' ⊎ TakesEnd from from'
IsWorkersAnswer answer from from' = TakesAnswer answer from from'

-- the record was sent to the worker, and this is what was answered next
abbrev pub AsksToAppend : CommitRecord → AppendAnswer → LaneToWorker → LaneToWorker → LaneFromWorker → LaneFromWorker
    → Type 0
AsksToAppend r answer to to' from from' = Sends (Append r) to to' × IsWorkersAnswer answer from from'

-- What an append does to the lanes. A record is taken only where the worker answered so to this very record, and
-- refused where it answered so or, with nothing sent, where there is no room for it.
abbrev pub Appended : CommitRecord → Bool → Type 0 → LaneToWorker → LaneToWorker → LaneFromWorker → LaneFromWorker
    → Type 0
Appended r true full to to' from from' = AsksToAppend r Taken to to' from from'
Appended r false full to to' from from' =
    AsksToAppend r Refused to to' from from' ⊎ (full × (to' ≡ to) × (from' ≡ from))

-- the transactions of these entries that aren't among those
abbrev pub others : {X : Type 0} → List TranName → List (TranName × X) → List TranName
others trans entries = filter (λ t. not (is_among trans t)) (keys_of entries)

-- the coordinator asked that these be forgotten, and nothing else
abbrev pub AsksToForgetAll : List TranName → LaneToWorker → LaneToWorker → Type 0
AsksToForgetAll trans to to' = but_full to' ≡ but_full (record to { sent = to.sent ++ map Forget trans })

-- they are the transactions that had a record and have none any more
abbrev pub AreDropped : Records → Records → List TranName → Type 0
AreDropped old left trans =
    (t : TranName) → is_among trans t ≡ (is_some (record_in old t) && is_none (record_in left t))

-- The coordinator asked that just those of its records be forgotten which it has no more, each of them, and it took
-- nothing.
abbrev pub Forgets : Records → Records → LaneToWorker → LaneToWorker → LaneFromWorker → LaneFromWorker → Type 0
Forgets old left to to' from from' =
    ((trans : List TranName) × AreDropped old left trans × AsksToForgetAll trans to to') × (from' ≡ from)

-- the coordinator asked that this one be forgotten, or asked nothing
abbrev pub AsksToForget : Bool → TranName → LaneToWorker → LaneToWorker → Type 0
AsksToForget true tran to to' = Sends (Forget tran) to to'
AsksToForget false tran to to' = to' ≡ to
