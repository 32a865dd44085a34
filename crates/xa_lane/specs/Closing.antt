-- What is said of a lane as it is closed: of its senders' ends, of what was taken, and of what was left.
use Rattle.std.specs.Prelude.{◌≡◌, ℕ, Bool, true, cond, ◌==◌, All, ◌<◌, List, [], ◌∷◌, ◌++◌, Option, Some, None}
use Rattle.std.specs.List.{list_any}
use mathlib.Core.Option.{some}
use lib.ListN.{get_elem?}
use Rattle.xa_lane.specs.Order.{of_sender, marks, log}
use Rattle.xa_lane.specs.Ends.{Sending, Receiving, received, has_ended}
use Rattle.xa_lane.specs.declared.order.Log.{Log}
use Rattle.xa_lane.specs.declared.parcel.Parcel.{Parcel}
use Rattle.xa_lane.specs.declared.lane.CloseWhy.{CloseWhy}
use Rattle.xa_lane.specs.declared.lane.CloseWhy.TheVariants.{Stranger, Missing}

module _ {T : Type 0} where
  -- an item, with its sender's number before it
  abbrev pub kept : ℕ → Option T → List (ℕ × T) → List (ℕ × T)
  kept p (Some y) xs = (p, y) ∷ xs
  kept p None xs = xs

  -- the items among parcels, each with its sender's number
  abbrev pub items_in : List (Parcel T) → List (ℕ × T)
  items_in [] = []
  items_in (x ∷ xs) = kept x.from x.item (items_in xs)

  -- the items of sender p among those left
  abbrev pub left_of : ℕ → List (ℕ × T) → List T
  left_of p [] = []
  left_of p (x ∷ xs) = cond (x.0 == p) (x.1 ∷ left_of p xs) (left_of p xs)

  -- all that was taken and left is of senders below n
  abbrev pub AreKnown : ℕ → List (Parcel T) → List (ℕ × T) → Type 0
  AreKnown n taken left = All (λ x. x.from < n) taken × All (λ x. x.0 < n) left

  -- each number below n is that of a sender that was taken in
  abbrev pub Covers : ℕ → List (Log T) → Type 0
  Covers n told = (p : ℕ) → p < n → (k : ℕ) × (l : Log T) × (get_elem? told k ≡ some l) × (l.from ≡ p)

module _ {T : Type 0} where
  -- what a sender that has ended has put
  abbrev pub log_of_end : Sending T → Log T
  log_of_end e = log e.index e.sent true

  -- whether the end of sender p is there
  abbrev pub has_end : ℕ → List (Sending T) → Bool
  has_end p ends = list_any (λ e. e.index == p) ends

  -- the end of each sender is there
  abbrev pub HasAllEnds : ℕ → List (Sending T) → Type 0
  HasAllEnds senders ends = (p : ℕ) → p < senders → has_end p ends ≡ true

  -- of each sender: what was taken and then what was left is what it sent
  abbrev pub Conserves : List (Sending T) → List (Parcel T) → List (ℕ × T) → Type 0
  Conserves ends taken left = All (λ e. received e.index taken ++ left_of e.index left ≡ e.sent) ends

  -- what was left are the items of parcels that stood after those taken, and the end mark of each sender is its last
  -- parcel
  abbrev pub EndsLast : List (Sending T) → List (Parcel T) → List (ℕ × T) → Type 0
  EndsLast ends taken left =
      (held : List (Parcel T)) × (left ≡ items_in held)
      × All (λ e. of_sender e.index (taken ++ held) ≡ marks e.sent true) ends

  -- of each sender whose end mark was taken, all that it sent was taken, and nothing is left
  abbrev pub LeavesNothing : List (Sending T) → List (Parcel T) → List (ℕ × T) → Type 0
  LeavesNothing ends taken left =
      All (λ e. has_ended e.index taken ≡ true → (received e.index taken ≡ e.sent) × (left_of e.index left ≡ [])) ends

  -- why a lane was not closed: an end of another lane first, then an end that is not there
  abbrev pub IsWhy : CloseWhy → Receiving T → List (Sending T) → Type 0
  IsWhy Stranger r ends = ¬ All (λ e. e.lane ≡ r.lane) ends
  IsWhy Missing r ends = All (λ e. e.lane ≡ r.lane) ends × (¬ HasAllEnds r.senders ends)
