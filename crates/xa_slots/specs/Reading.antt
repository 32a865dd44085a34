-- What reading the slots of a table finds, and what it leaves as it was.
use Rattle.std.specs.Prelude.{◌≡◌, ℕ, ◌<◌, ◌≤◌, List, [], ◌∷◌, length, IsSome, ⊤}
use Rattle.sqlite_value.specs.Order.{Row}
use Rattle.sqlite_trees.specs.View.{View, HasCause, IsClean}
use Rattle.xa_slots.specs.declared.fault.TableReadFault.{TableReadFault}
use Rattle.xa_slots.specs.declared.fault.TableReadFault.TheVariants.{Failed, NotSlots}
use Rattle.xa_slots.specs.Slots.{Slot, row_of, rows_from}

-- the row is that of a slot from this one on, of so many
pub record IsSlotRow (first count : ℕ) (row : Row) : Type 0 where
  pub slot : ℕ
  pub cells : Row
  pub from : first ≤ slot
  pub below : slot < count
  pub row_is : row ≡ row_of slot cells

-- no slots, so many, have these rows
abbrev pub HasNoSlots : ℕ → List Row → Type 0
HasNoSlots count rows = (slots : List Slot) → length slots ≡ count → rows ≡ rows_from 1 slots → ⊥

-- the last of them is taken, if there is any
abbrev pub EndsTaken : List Slot → Type 0
EndsTaken [] = ⊤
EndsTaken (slot ∷ []) = IsSome slot
EndsTaken (slot ∷ next ∷ slots) = EndsTaken (next ∷ slots)

-- only cursors have moved, if the disk has returned what was written
abbrev pub OnlyReads : View → View → Type 0
OnlyReads old new = IsClean new → new ≡ record old { cursors = new.cursors }

-- why a table isn't read, where `fault` says that the disk failed during it
abbrev pub HasReadCause : View → Type 0 → TableReadFault → Type 0
HasReadCause old fault (Failed error) = HasCause old fault ⊥ error
HasReadCause old fault NotSlots = ⊤
