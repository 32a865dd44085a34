-- What an append does to a log on a disk, and what forgetting does, beside what they do to every log.
use Rattle.std.specs.Prelude.{◌≡◌, ◌≢◌, ◌⊎◌, ℕ, ◌+◌, ◌<◌, ◌≤◌, Bool, true, false, List, length, map, Option, None, Some}
use Rattle.std.specs.List.{All, Contains}
use Rattle.std.specs.FinMap as finmap
use Rattle.xa_words.specs.Tran.{TranName}
use Rattle.xa_log.specs.declared.log.CommitRecord.{CommitRecord}
use Rattle.xa_log.specs.Log.{Records, record_in}
use Rattle.xa_log_file.specs.declared.condition.Condition.{Condition}
use Rattle.xa_log_file.specs.declared.condition.Condition.TheVariants.{Ready}
use Rattle.xa_log_file.specs.declared.slot.LogSlot.{LogSlot}
use Rattle.xa_log_file.specs.Device.{LeavesOnly}
use Rattle.xa_log_file.specs.RecordBytes.{IsValid}
use Rattle.xa_log_file.specs.Slots.{HasRecords}
use Rattle.xa_log_file.specs.Memory.{HasRecordsAndPerhaps, IsFull, records_in, forgotten_in, shut, used}

-- a kind of device: its moments, what a crash might have left since one of them, and how often it has failed
pub record Disk (D : Type 0) : Type 1 where
  pub moment : D → ℕ
  pub left_since : D → ℕ → List ℕ → Type 0
  pub faults : D → ℕ

-- a log on a device, before a call or after it
pub record LogAt (D : Type 0) : Type 0 where
  pub condition : Condition
  pub slots : List LogSlot
  pub device : D

-- The file has the records of these slots, with this one or without, and perhaps forgotten ones.
abbrev pub HasWithOrWithout : List LogSlot → CommitRecord → List ℕ → Type 0
HasWithOrWithout slots r file =
    HasRecordsAndPerhaps (records_in slots) (forgotten_in slots) file
    ⊎ HasRecordsAndPerhaps (finmap.insert (records_in slots) r.tran r.yes) (forgotten_in slots) file

-- whatever the new slots have forgotten, the old ones had
abbrev pub ForgetsNoMore : List LogSlot → List LogSlot → Type 0
ForgetsNoMore old new = (t : TranName) → (record_in (forgotten_in new) t ≡ None)
    ⊎ (record_in (forgotten_in new) t ≡ record_in (forgotten_in old) t)

-- What forgetting does: the file stays, and what is forgotten was taken or forgotten before.
pub record IsForgettingInLog {D : Type 0} (old new : LogAt D) : Type 0 where
  pub condition : new.condition ≡ old.condition
  pub device : new.device ≡ old.device
  pub forgotten : (t : TranName) → (record_in (forgotten_in new.slots) t ≡ None)
      ⊎ ((record_in (forgotten_in new.slots) t ≡ record_in (records_in old.slots) t)
      ⊎ (record_in (forgotten_in new.slots) t ≡ record_in (forgotten_in old.slots) t))

-- One of these records is of the transaction, and has these votes.
pub record IsOneOf (rs : List CommitRecord) (t : TranName) (found : Option (List Bool)) : Type 0 where
  pub r : CommitRecord
  pub one : Contains rs r
  pub named : r.tran ≡ t
  pub votes : found ≡ Some r.yes

-- The file has these records, any of the new ones, each whole, and perhaps forgotten ones, and nothing else.
pub record HasWithAnyOf (records forgotten : Records) (rs : List CommitRecord) (file : List ℕ) : Type 0 where
  pub found : Records
  pub has : HasRecords found file
  pub each : (t : TranName) → (record_in found t ≡ record_in records t) ⊎ ((record_in records t ≡ None)
      × ((record_in found t ≡ record_in forgotten t) ⊎ IsOneOf rs t (record_in found t)))

-- What is recorded together, or refused together: where the log takes no more, has too few slots for all, or its device
-- fails, or where one is none of the program. A log goes on as it was, but where its device has failed.
pub record IsAppend {D : Type 0} (disk : Disk D) (rs : List CommitRecord) (are_taken : Bool) (old new : LogAt D)
    : Type 0 where
  pub any_moment : LeavesOnly disk.moment disk.left_since old.device new.device
      (HasWithAnyOf (records_in old.slots) (forgotten_in old.slots) rs)
  pub nothing : length rs ≡ 0 → new.device ≡ old.device
  pub forgotten : ForgetsNoMore old.slots new.slots
  pub ready : are_taken ≡ true → 1 ≤ length rs → new.condition ≡ Ready
  pub goes_on : (new.condition ≡ old.condition)
      ⊎ ((are_taken ≡ false) × (disk.faults old.device < disk.faults new.device))
  pub cause : are_taken ≡ false
      → (old.condition ≢ Ready) ⊎ ((length old.slots < used (map shut old.slots) + length rs)
      ⊎ ((disk.faults old.device < disk.faults new.device) ⊎ (All IsValid rs → ⊥)))

-- What has an unknown end: a crash leaves the same, and the device has failed.
pub record IsLoss {D : Type 0} (disk : Disk D) (rs : List CommitRecord) (old new : LogAt D) : Type 0 where
  pub any_moment : LeavesOnly disk.moment disk.left_since old.device new.device
      (HasWithAnyOf (records_in old.slots) (forgotten_in old.slots) rs)
  pub cause : disk.faults old.device < disk.faults new.device
