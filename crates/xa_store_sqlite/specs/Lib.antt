pub mod Images
pub mod Writes
pub mod Files
pub mod Refusals
pub mod Worked
-- The words of this crate, by its name.
pub use Images.{StoredBranch, HasAllBut, HasImage, Image, IsAccount, IsBranchRow, IsChangeRow, account_cells}
pub use Images.{branch_cells, change_cells, left_in_slots, branch_name_at, slots_of, state_of_left, state_text}
pub use Images.{store_cells, store_row, stored_of, AreStoredValues, DiffersAt, HasOf, HasValuesOf, Lacks}
pub use Images.{keys_of_accounts, table_number, state_in, sum_in, IsSettledImage, LeavesTables, left_in, sums_of}
pub use Images.{tables_of_image, with_sum}
pub use Writes.{NoBranchTwice, AreOwned, AreOwnedBy, ArePlaces, AreSlots, AreTables, IsInOrder, IsLaid, IsSeen}
pub use Writes.{is_of_branch, is_of_slot, is_removing, item_at, first_place_from, unless_of, without_changes}
pub use Writes.{KnowsAllBut, LackAll, PutsAll, PutsBranch, PutsSum, PutsSums, RemovesAll, image_of, with_account}
pub use Writes.{with_branch, with_change}
pub use Refusals.{HasCells, HasGap, HasNoRoom, HasSuch, HasTooMany, IsBadRow, IsChangeOf, IsNoChangeFor, IsNoStore}
pub use Refusals.{IsNotBareFor, IsOfNumber, IsOfVersion, IsOrOfDevice, IsOther, StoreIsRefused, IsRefusedFor}
pub use Refusals.{IsRefusedForRows, IsStoreRow}
pub use Refusals.{IsUnreadFor, MayBeOfStore, fault_of_bare, fault_of_error, fault_of_opening, fault_of_reading}
pub use Refusals.{is_of_device}
pub use Worked.{completed_name, prepared_name, two_accounts, worked_image}
pub use declared.mirror.Change.{Change}
pub use declared.mirror.Left.{Left}
pub use declared.mirror.Mirror.{Mirror}
