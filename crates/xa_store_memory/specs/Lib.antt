pub mod Memory
-- The words of this crate, by its name.
pub use Memory.{KnowsTables, MayLeave, StoreView, after_settle, after_tell, can_write, counted_down, store_failed, fits}
pub use Memory.{is_due, owes, reopened_for, settles, store_of, written}
