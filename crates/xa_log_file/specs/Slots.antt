-- What a file of slots stands for.
use Rattle.std.specs.Prelude.{◌≡◌, ◌⊎◌, ℕ, ◌+◌, ◌*◌, ◌<◌, ◌≤◌, Bool, Option, None, Some, option_map}
use Rattle.std.specs.Prelude.{List, [], ◌∷◌, length, get_or, take, drop, replicate}
use Rattle.std.specs.FinMap as finmap
use Rattle.xa_words.specs.Tran.{TranName}
use Rattle.xa_log.specs.declared.log.CommitRecord.{CommitRecord}
use Rattle.xa_log.specs.Log.{Records}
use Rattle.xa_log_file.specs.Device.{Only}
use Rattle.xa_log_file.specs.RecordBytes.{spelling, head, IsValid}

-- the record of each slot, where it has one
abbrev pub RecordTable : Type 0
RecordTable = List (Option CommitRecord)

-- the bytes of slot k: its gate and its body, after the head and the slots before it
abbrev pub slot : ℕ → List ℕ → List ℕ
slot k file = take 94 (drop (18 + 94 * k) file)

-- A slot has a record where its gate is 255, and none where it is 0, whatever is after it. No other gate is one.
pub record IsSlotOf (o : Option CommitRecord) (bytes : List ℕ) : Type 0 where
  pub free : o ≡ None → take 1 bytes ≡ 0 ∷ []
  pub taken : (r : CommitRecord) → o ≡ Some r → bytes ≡ 255 ∷ spelling r
  pub valid : (r : CommitRecord) → o ≡ Some r → IsValid r

-- the transaction of a slot's record, where it has one
abbrev pub tran_of_record : Option CommitRecord → Option TranName
tran_of_record o = option_map (λ r. r.tran) o

-- no two slots have one transaction
abbrev pub NoTransactionTwice : RecordTable → Type 0
NoTransactionTwice table = (j k : ℕ) (t : TranName) → tran_of_record (get_or table j None) ≡ Some t
    → tran_of_record (get_or table k None) ≡ Some t → j ≡ k

-- The file stands for the table: its size and its head are those of so many slots, each has what the table has, and no
-- two have one transaction.
pub record StandsFor (table : RecordTable) (file : List ℕ) : Type 0 where
  pub few : length table ≤ 65536
  pub size : length file ≡ 18 + 94 * length table
  pub header : take 18 file ≡ head (length table)
  pub each : (k : ℕ) → k < length table → IsSlotOf (get_or table k None) (slot k file)
  pub apart : NoTransactionTwice table

-- the records of a table, by their transactions
abbrev pub entries : RecordTable → List (TranName × List Bool)
entries [] = []
entries (None ∷ table) = entries table
entries (Some r ∷ table) = (r.tran, r.yes) ∷ entries table

abbrev pub records_of : RecordTable → Records
records_of table = finmap.from_entries (entries table)

-- the file stands for these records
pub record HasRecords (records : Records) (file : List ℕ) : Type 0 where
  pub table : RecordTable
  pub stands : StandsFor table file
  pub same : records_of table ≡ records

-- the file stands for the one records or for the other
abbrev pub HasEither : Records → Records → List ℕ → Type 0
HasEither before after file = HasRecords before file ⊎ HasRecords after file

-- The file begins as one of so many slots: its size and its head are those.
pub record IsHeaded (slots : ℕ) (file : List ℕ) : Type 0 where
  pub few : slots ≤ 65536
  pub size : length file ≡ 18 + 94 * slots
  pub header : take 18 file ≡ head slots

-- it is empty, or begins as a log
abbrev pub MayBeLog : List ℕ → Type 0
MayBeLog file = (file ≡ []) ⊎ ((slots : ℕ) × IsHeaded slots file)

-- no log has this size
abbrev pub IsNoLogSize : ℕ → Type 0
IsNoLogSize size = (slots : ℕ) → slots ≤ 65536 → size ≡ 18 + 94 * slots → ⊥

-- what a read returns stands for the table, and a crash leaves it
pub record IsDurable {D : Type 0} (seen : D → List ℕ) (may_leave : D → List ℕ → Type 0) (table : RecordTable)
    (device : D) : Type 0 where
  pub stands : StandsFor table (seen device)
  pub durable : Only (seen device) (may_leave device)

-- whatever a crash leaves stands for the table
abbrev pub KeepsTable : {D : Type 0} → (D → List ℕ → Type 0) → RecordTable → D → Type 0
KeepsTable may_leave table device = (c : List ℕ) → may_leave device c → StandsFor table c

-- the file stands for no records, nor for none of them
abbrev pub IsNoLog : List ℕ → Type 0
IsNoLog file = (records : Records) → HasRecords records file → ⊥

-- a table with no record
abbrev pub free_slots : ℕ → RecordTable
free_slots n = replicate n None

-- it is no log yet, or one without a record
abbrev pub IsNewLog : ℕ → List ℕ → Type 0
IsNewLog n file = IsNoLog file ⊎ StandsFor (free_slots n) file
