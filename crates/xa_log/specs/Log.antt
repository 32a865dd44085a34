-- The decision log: a finite map. A transaction that isn't there is presumed aborted.
use Rattle.std.specs.Prelude.{◌≡◌, ◌⊎◌, ℕ, ◌+◌, ◌-◌, ◌%◌, ◌^◌, ◌<◌, ◌≤◌, nat_lt, if◌then◌else◌, Bool, true, false}
use Rattle.std.specs.Prelude.{Option, None, List, [], ◌∷◌, refl}
use Rattle.std.specs.List.{flat_map, list_any}
use Rattle.std.specs.FinMap.{FinMap}
use Rattle.std.specs.FinMap as map
use Rattle.std.specs.Coded.{Coded, code_by, coded×, coded_ℕ, coded_bool, coded_list}
use Rattle.xa_words.specs.Tran.{TranName, tran_code, tran_eq}
use Rattle.xa_log.specs.declared.log.CommitRecord.{CommitRecord}
use Rattle.xa_log.specs.Transactions.{tran_cmp}

-- which managers voted yes, of each transaction that was decided to commit
abbrev pub Records : Type 0
Records = FinMap tran_cmp (List Bool)

-- the record of a transaction among these, if there is one
abbrev pub record_in : Records → TranName → Option (List Bool)
record_in records t = map.get records t

-- the records of several logs together; of a transaction that more than one has, the first one's
abbrev pub all_records : List Records → Records
all_records logs = map.from_entries (flat_map map.entries logs)

-- what contracts see of a log: its records, and how many appends failed, counted from 0 again after u64::MAX
pub record LogState : Type 0 where
  pub records : Records
  pub failures : ℕ

-- a log without a record
abbrev pub no_records : LogState
no_records = record { records = map.empty; failures = 0 }

-- the record of a transaction, if there is one
abbrev pub record_of : LogState → TranName → Option (List Bool)
record_of log t = record_in log.records t

-- one more record
abbrev pub with_record : LogState → TranName → List Bool → LogState
with_record log t managers = record log { records = map.insert log.records t managers }

-- without the record of a transaction
abbrev pub without_record : LogState → TranName → LogState
without_record log t = record log { records = map.remove log.records t }

-- the transaction is one of these
abbrev pub is_among : List TranName → TranName → Bool
is_among ts t = list_any (tran_eq t) ts

-- with no records but those of these transactions
abbrev pub with_only : LogState → List TranName → LogState
with_only log ts = record log { records = map.retain_keys log.records (is_among ts) }

-- one more; at u64::MAX it stays
abbrev pub counted_up : ℕ → ℕ
counted_up n = if nat_lt n (2 ^ 64 - 1) then n + 1 else n

-- these records more, in their order
abbrev pub with_records : LogState → List CommitRecord → LogState
with_records log [] = log
with_records log (r ∷ rs) = with_records (with_record log r.tran r.yes) rs

-- none of their transactions has a record, and no two of them are of one transaction
abbrev pub AreNew : LogState → List CommitRecord → Type 0
AreNew log [] = Unit {0}
AreNew log (r ∷ rs) = (record_of log r.tran ≡ None) × AreNew (with_record log r.tran r.yes) rs

-- one more failure; there is no count at which it can't be told
abbrev pub with_failure : LogState → LogState
with_failure log = record log { failures = (log.failures + 1) % 2 ^ 64 }

-- What a log has, once it is opened again, whose append of this record had an unknown end: it isn't there, or it is.
abbrev pub IsEither : LogState → LogState → TranName → List Bool → Type 0
IsEither log later t managers = (later ≡ log) ⊎ (later ≡ with_record log t managers)

-- What a log may be read as, once it is opened again: what it has, where it is known; and where it has lost an append,
-- what it had before, with that record or without it.
pub record IsReadAs {L : Type 0} (state : L → LogState) (knows : L → Type 0)
    (loses : TranName → List Bool → L → L → Type 0) (log : L) (read : LogState) : Type 0 where
  pub known : knows log → read ≡ state log
  pub lost : (knows log → ⊥) → (before : L) (t : TranName) (managers : List Bool) → loses t managers before log
      → IsEither (state before) read t managers

-- a log in memory: its state, and for how many more records it has room
pub record LogView : Type 0 where
  pub state : LogState
  pub room : ℕ

-- the room that a map has by its spare places; of one that was never reserved none is known
abbrev pub room_by_spare : Bool → ℕ → ℕ
room_by_spare true spare = spare
room_by_spare false spare = 0

-- What an append to a log in memory does, and whether that takes the record: it fails only where the log has no room.
pub record AppendsTo (tran : TranName) (yes : List Bool) (taken : Bool) (old new : LogView) : Type 0 where
  pub state : new.state ≡ (if taken then with_record old.state tran yes else with_failure old.state)
  pub fits : 0 < old.room → taken ≡ true
  pub room : taken ≡ true → old.room ≤ new.room + 1

-- What forgetting does to a log in memory beside its records: there is room for as many more as before.
abbrev pub ForgetsFrom : LogView → LogView → Type 0
ForgetsFrom old new = old.room ≤ new.room

-- a log in memory as data
abbrev pub log_code : Coded LogView
log_code =
    code_by (Records × (ℕ × ℕ))
    (coded× (map.code tran_code (coded_list coded_bool)) (coded× coded_ℕ coded_ℕ))
    (λ l. (l.state.records, (l.state.failures, l.room)))
    (λ p. record { state = record { records = p.0; failures = p.1.0 }; room = p.1.1 })
    (λ _. refl)
