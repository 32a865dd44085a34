pub mod Slots
pub mod Reading
-- The words of this crate, by its name.
pub use Slots.{HasSlots, IsCommitted, HasTables, Knows, Slot, SlotsOfTables, row_of, rows_from, with_slot}
pub use Reading.{EndsTaken, HasNoSlots, HasReadCause, IsSlotRow, OnlyReads}
pub use declared.fault.TableReadFault.{TableReadFault}
pub use declared.fault.TableReadFault.TheVariants.{Failed, NotSlots}
