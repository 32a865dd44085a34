pub mod Device
pub mod RecordBytes
pub mod Slots
pub mod Memory
pub mod Appends
pub mod DeviceHistories
pub mod HistoryLaws
pub mod FileNotes
-- The words of this crate, by its name.
pub use Device.{Elapses, OutcomesFollow, HasCause, IsOverwritten, IsTorn, IsByteWhole, LeavesOnly, Only, Torn}
pub use Device.{log_overwritten}
pub use RecordBytes.{IsValid, yes_bytes}
unfoldable pub use RecordBytes.{fields, head, spelling}
pub use Slots.{NoTransactionTwice, HasEither, HasRecords, IsNewLog, IsNoLog, IsDurable, IsSlotOf, KeepsTable, StandsFor}
pub use Slots.{RecordTable, IsHeaded, IsNoLogSize, MayBeLog, entries, free_slots, tran_of_record, records_of, slot}
pub use Memory.{AreNewNames, HasBodies, HasBody, HasName, HasNoFree, HasNoName, HasNoneForgotten, HasRecordsAndPerhaps}
pub use Memory.{HasFreeSlots, IsFull, IsIndexOf, LeavesShown, MayHave, MayShow, Shows, coming, forgets}
pub use Memory.{forgotten_record, filled, forgotten_in, is_used, state_of_slots, tran_in_slot, on_file, placed}
pub use Memory.{records_in, shut, table_of, taken, used}
pub use Appends.{Disk, ForgetsNoMore, HasWithAnyOf, HasWithOrWithout, IsAppend, IsForgettingInLog, IsLoss, IsOneOf}
pub use Appends.{LogAt}
pub use DeviceHistories.{LeftSince, Past, count_failed, failures, leaves, left_after, left_by_calls, writing}
pub use DeviceHistories.{last_synced, synced_after, synced_from}
pub use FileNotes.{LogFileCalls, LogFileSyncs, log_found_after, log_found_by, found_from, log_given_after, log_given_by}
pub use FileNotes.{given_from, log_kept_by, LogFileSizes, log_kept_from, log_part, log_told_by, told_from}
pub use HistoryLaws.{now_is_since, only_the_last}
pub use declared.mirrored.DeviceCall.{DeviceCall}
pub use declared.mirrored.DeviceCall.TheVariants.{Synced}
pub use declared.notes.FileCall.{FileCall}
pub use declared.notes.FileCall.TheVariants.{Read, Rewrote, Wrote}
pub use declared.slot.LogSlot.{LogSlot}
pub use declared.slot.LogSlot.TheVariants.{Forgotten, Free, Taken}
pub use declared.slot_table.SlotTable.{SlotTable}
