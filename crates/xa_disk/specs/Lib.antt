pub mod Bytes
pub mod Faults
pub mod FileNotes
pub mod Synced
-- The words of this crate, by its name.
pub use Bytes.{overwritten, part, resized}
pub use Faults.{device_fault, kind_fault, of_disk, of_opening}
pub use FileNotes.{FileCalls, FileSizes, FileSyncs, found_after, found_by, given_after, given_by, kept_by, told_by}
pub use Synced.{Memories, remembered}
pub use declared.notes.FileCall.{FileCall}
pub use declared.notes.FileCall.TheVariants.{Read, Resized, Rewrote, Wrote}
