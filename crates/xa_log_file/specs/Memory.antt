-- The slots as the log has them in memory, and what a file may have of them.
use Rattle.std.specs.Prelude.{◌≡◌, ◌⊎◌, ℕ, ◌+◌, ◌*◌, ◌<◌, ◌≤◌, Bool, true, false, if◌then◌else◌, Option, None, Some}
use Rattle.std.specs.Prelude.{List, [], ◌∷◌, length, get_or, take, drop, map}
use Rattle.std.specs.List.{count_by}
use Rattle.std.specs.FinMap.{FinMap}
use Rattle.std.specs.FinMap as finmap
use Rattle.xa_words.specs.Tran.{TranName}
use Rattle.xa_log.specs.declared.log.CommitRecord.{CommitRecord}
use Rattle.xa_log.specs.Log.{Records, LogState, record_in}
use Rattle.xa_log.specs.Transactions.{tran_cmp}
use Rattle.xa_log_file.specs.declared.slot.LogSlot.{LogSlot}
use Rattle.xa_log_file.specs.declared.slot.LogSlot.TheVariants.{Free, Taken, Forgotten}
use Rattle.xa_log_file.specs.RecordBytes.{spelling, head}
use Rattle.xa_log_file.specs.Slots.{RecordTable, slot, tran_of_record, NoTransactionTwice, IsDurable, IsSlotOf}
use Rattle.xa_log_file.specs.Slots.{HasRecords, records_of}

-- what the file has of a slot
abbrev pub on_file : LogSlot → Option CommitRecord
on_file Free = None
on_file (Taken r) = Some r
on_file (Forgotten r) = Some r

-- the record that counts
abbrev pub taken : LogSlot → Option CommitRecord
taken Free = None
taken (Taken r) = Some r
taken (Forgotten r) = None

-- the record that is forgotten
abbrev pub forgotten_record : LogSlot → Option CommitRecord
forgotten_record Free = None
forgotten_record (Taken r) = None
forgotten_record (Forgotten r) = Some r

-- the table of the file
abbrev pub table_of : List LogSlot → RecordTable
table_of slots = map on_file slots

-- the records that the log has
abbrev pub records_in : List LogSlot → Records
records_in slots = records_of (map taken slots)

-- and those that it has forgotten and not yet shut
abbrev pub forgotten_in : List LogSlot → Records
forgotten_in slots = records_of (map forgotten_record slots)

-- what contracts of logs see of one with these slots
abbrev pub state_of_slots : List LogSlot → ℕ → LogState
state_of_slots slots failures = record { records = records_in slots; failures = failures }

-- a slot whose gate is shut, where its record was forgotten
abbrev pub shut : LogSlot → LogSlot
shut Free = Free
shut (Taken r) = Taken r
shut (Forgotten r) = Free

-- a slot whose record is forgotten, where its transaction passes the test
abbrev pub forgets : (TranName → Bool) → LogSlot → LogSlot
forgets test Free = Free
forgets test (Taken r) = if test r.tran then Forgotten r else Taken r
forgets test (Forgotten r) = Forgotten r

-- the transaction of a slot, forgotten or not
abbrev pub tran_in_slot : List LogSlot → ℕ → Option TranName
tran_in_slot slots k = tran_of_record (on_file (get_or slots k Free))

-- the slot at this place is of the transaction
abbrev pub HasName : List LogSlot → ℕ → TranName → Type 0
HasName slots k t = (k < length slots) × (tran_in_slot slots k ≡ Some t)

-- no slot is
abbrev pub HasNoName : List LogSlot → TranName → Type 0
HasNoName slots t = (k : ℕ) → tran_in_slot slots k ≡ Some t → ⊥

-- before this place no slot is free
abbrev pub HasNoFree : List LogSlot → ℕ → Type 0
HasNoFree slots n = (k : ℕ) → k < n → get_or slots k Free ≡ Free → ⊥

-- each slot has a record that counts
abbrev pub IsFull : List LogSlot → Type 0
IsFull slots = (k : ℕ) → k < length slots → taken (get_or slots k Free) ≡ None → ⊥

-- no record is forgotten
abbrev pub HasNoneForgotten : List LogSlot → Type 0
HasNoneForgotten slots = (k : ℕ) → forgotten_record (get_or slots k Free) ≡ None

-- the map has the place of each transaction
pub record IsIndexOf (places : FinMap tran_cmp ℕ) (slots : List LogSlot) : Type 0 where
  pub there : (k : ℕ) (t : TranName) → tran_in_slot slots k ≡ Some t → finmap.get places t ≡ Some k
  pub only : (k : ℕ) (t : TranName) → finmap.get places t ≡ Some k → tran_in_slot slots k ≡ Some t

-- the slot isn't free
abbrev pub is_used : LogSlot → Bool
is_used Free = false
is_used s = true

-- how many slots aren't
abbrev pub used : List LogSlot → ℕ
used slots = count_by is_used slots

-- the slots with these records in the first that are free, one after another, each as the slot that f makes of it
abbrev pub filled : (CommitRecord → LogSlot) → List LogSlot → List CommitRecord → List LogSlot
filled f [] rs = []
filled f (Free ∷ slots) (r ∷ rs) = f r ∷ filled f slots rs
filled f (s ∷ slots) rs = s ∷ filled f slots rs

-- with these records taken
abbrev pub placed : List LogSlot → List CommitRecord → List LogSlot
placed slots rs = filled Taken slots rs

-- the same, while it isn't known of which of them the gates are open
abbrev pub coming : List LogSlot → List CommitRecord → List LogSlot
coming slots rs = filled Forgotten slots rs

-- the body of this record stands in slot k, whatever its gate
abbrev pub HasBody : ℕ → CommitRecord → List ℕ → Type 0
HasBody k r file = drop 1 (slot k file) ≡ spelling r

-- the bodies of the records that are placed stand in their slots
abbrev pub HasBodies : List LogSlot → List CommitRecord → List ℕ → Type 0
HasBodies slots rs file = (k : ℕ) (r : CommitRecord) → get_or slots k Free ≡ Free
    → get_or (placed slots rs) k Free ≡ Taken r → HasBody k r file

-- so many slots are free, or more
abbrev pub HasFreeSlots : List LogSlot → ℕ → Type 0
HasFreeSlots slots n = used slots + n ≤ length slots

-- none of these records is of a slot's transaction, and no two are of one
abbrev pub AreNewNames : List LogSlot → List CommitRecord → Type 0
AreNewNames slots rs = NoTransactionTwice (table_of (placed slots rs))

-- What a file may have of a slot: where it is forgotten, its gate may be shut.
pub record MayHave (s : LogSlot) (bytes : List ℕ) : Type 0 where
  pub counts : forgotten_record s ≡ None → IsSlotOf (on_file s) bytes
  pub unshut : (take 1 bytes ≡ 0 ∷ [] → ⊥) → IsSlotOf (on_file s) bytes

-- The file has these slots, but that the gates of forgotten ones may be shut.
pub record MayShow (slots : List LogSlot) (file : List ℕ) : Type 0 where
  pub few : length slots ≤ 65536
  pub size : length file ≡ 18 + 94 * length slots
  pub header : take 18 file ≡ head (length slots)
  pub apart : NoTransactionTwice (table_of slots)
  pub each : (k : ℕ) → k < length slots → MayHave (get_or slots k Free) (slot k file)

-- what a read returns has these slots, and a crash leaves it
abbrev pub Shows : {D : Type 0} → (D → List ℕ) → (D → List ℕ → Type 0) → List LogSlot → D → Type 0
Shows seen may_leave slots device = IsDurable seen may_leave (table_of slots) device

-- whatever a crash leaves may have these slots
abbrev pub LeavesShown : {D : Type 0} → (D → List ℕ → Type 0) → List LogSlot → D → Type 0
LeavesShown may_leave slots device = (c : List ℕ) → may_leave device c → MayShow slots c

-- The file has these records, and beside them perhaps some that were forgotten, and nothing else.
pub record HasRecordsAndPerhaps (records forgotten_record : Records) (file : List ℕ) : Type 0 where
  pub found : Records
  pub has : HasRecords found file
  pub each : (t : TranName) → (record_in found t ≡ record_in records t)
      ⊎ ((record_in records t ≡ None) × (record_in found t ≡ record_in forgotten_record t))
