-- The rule of a lane's queue, over what it holds and over what each pass knows.
use Rattle.std.specs.Prelude.{◌≡◌, ℕ, ◌+◌, ◌<◌, ◌≤◌, Bool, true, false, cond, ◌==◌, List, [], ◌∷◌, ◌++◌, length, map}
use Rattle.std.specs.Prelude.{Option, Some, None}
use mathlib.Core.Option.{some, none}
use mathlib.Core.Option as maybe
use lib.ListN.{get_elem?}
use Rattle.xa_base.specs.declared.limits.TheConstants.{MOST_QUEUED}
use Rattle.xa_lane.specs.declared.parcel.Parcel.{Parcel}
use Rattle.xa_lane.specs.declared.order.Log.{Log}
use Rattle.xa_lane.specs.declared.order.View.{View}
use Rattle.xa_lane.specs.declared.order.View.TheVariants.{Sends, Receives, Spent}

module _ {T : Type 0} where
  -- what sender p put among the parcels, oldest first: its items, and None for its end mark
  abbrev pub of_sender : ℕ → List (Parcel T) → List (Option T)
  of_sender p [] = []
  of_sender p (x ∷ xs) = cond (x.from == p) (x.item ∷ of_sender p xs) (of_sender p xs)

  -- the items, and then the end mark where the sender has ended
  abbrev pub marks : List T → Bool → List (Option T)
  marks xs ended = map Some xs ++ cond ended (None ∷ []) []

  -- what a sender has put
  abbrev pub log : ℕ → List T → Bool → Log T
  log p xs ended = record { from = p; items = xs; ended = ended }

  -- the same as a list
  abbrev pub put_of : Log T → List (Option T)
  put_of l = marks l.items l.ended

  -- one item more, or the end mark
  abbrev pub wrote : Log T → Option T → Log T
  wrote l (Some y) = log l.from (l.items ++ y ∷ []) l.ended
  wrote l None = log l.from l.items true

  -- the items that a sender's pass knows to be sent
  abbrev pub sent_in : View T → List T
  sent_in (Sends l) = l.items
  sent_in v = []

  -- what the receiver's pass knows to be taken
  abbrev pub taken_in : View T → List (Parcel T)
  taken_in (Receives made got told) = got
  taken_in v = []

  -- how many senders the receiver made
  abbrev pub made_in : View T → ℕ
  made_in (Receives made got told) = made
  made_in v = 0

  -- the senders that the receiver took in
  abbrev pub told_in : View T → List (Log T)
  told_in (Receives made got told) = told
  told_in v = []

  -- the sender's view after a push
  abbrev pub after_put : View T → Parcel T → View T
  after_put (Sends l) x = Sends (wrote l x.item)
  after_put v x = v

  -- the receiver's view after a pop
  abbrev pub after_get : View T → Parcel T → View T
  after_get (Receives made got told) x = Receives made (got ++ x ∷ []) told
  after_get v x = v

  -- the parcel is of one of the senders that were made
  abbrev pub IsMade : View T → Parcel T → Type 0
  IsMade (Receives made got told) x = x.from < made
  IsMade v x = Unit {0}

  -- the receiver's view once it has made a sender
  abbrev pub after_deal : View T → View T
  after_deal (Receives made got told) = Receives (made + 1) got told
  after_deal v = v

  -- the view of that sender, which has the next number and has put nothing
  abbrev pub dealt_view : View T → View T
  dealt_view (Receives made got told) = Sends (log made [] false)
  dealt_view v = Spent

  -- the receiver's view once it has taken a sender in
  abbrev pub after_join : View T → View T → View T
  after_join (Receives made got told) (Sends l) = Receives made got (told ++ l ∷ [])
  after_join v w = v

  -- a sender learns that what it put is among the parcels taken and held
  abbrev pub sender_learns : View T → List (Parcel T) → Type 0
  sender_learns (Sends l) items = (got : List (Parcel T)) × (of_sender l.from (got ++ items) ≡ put_of l)
  sender_learns v items = Unit {0}

  -- of each sender that was taken in, the parcels are what it put
  abbrev pub Tied : List (Log T) → List (Parcel T) → Type 0
  Tied told parcels = (k : ℕ) (l : Log T) → get_elem? told k ≡ some l → of_sender l.from parcels ≡ put_of l

  -- no number but those that were made has put anything
  abbrev pub Within : ℕ → List (Parcel T) → Type 0
  Within made parcels = (p : ℕ) → made ≤ p → of_sender p parcels ≡ []

  -- the receiver learns this of the parcels taken and held
  abbrev pub receiver_learns : View T → List (Parcel T) → Type 0
  receiver_learns (Receives made got told) items =
      Tied told (got ++ items) × Within made (got ++ items) × (length items ≤ MOST_QUEUED)
  receiver_learns v items = Unit {0}

  -- what a pop tells: the receiver has the parcel, which is of one of its senders, and just before it the queue held
  -- the parcel at its front
  abbrev pub Popped : View T → Parcel T → View T → Type 0
  Popped v x w = (w ≡ after_get v x) × IsMade v x × ((items : List (Parcel T)) × receiver_learns v (x ∷ items))

module _ {T : Type 0} (receiver made : ℕ) (seat : ℕ → maybe.Option ℕ) (got all : List (Parcel T)) (pass : ℕ) where
  -- each live sender has one pass, which knows what it put; the one receiver knows what it took, and what each sender
  -- put that it took in
  abbrev pub FitsOrder : View T → Type 0
  FitsOrder (Sends l) = (seat l.from ≡ some pass) × (of_sender l.from all ≡ put_of l)
  FitsOrder (Receives m g told) =
      (pass ≡ receiver) × (m ≡ made) × (g ≡ got) ×
      ((k : ℕ) (l : Log T) → get_elem? told k ≡ some l
      → (l.from < made) × (seat l.from ≡ none) × (of_sender l.from all ≡ put_of l))
  FitsOrder Spent = Unit {0}

-- the rule: some parcels were taken, and for each pass that isn't spent they and those held are as it knows
pub record Delivers {T : Type 0} (items : List (Parcel T)) (views : List (View T)) : Type 0 where
  pub receiver : ℕ
  pub made : ℕ
  pub seat : ℕ → maybe.Option ℕ
  pub got : List (Parcel T)
  pub short : length items ≤ MOST_QUEUED
  pub unmade : (p : ℕ) → made ≤ p → (seat p ≡ none) × (of_sender p (got ++ items) ≡ [])
  pub fits : (pass : ℕ) (v : View T) → get_elem? views pass ≡ some v
      → FitsOrder receiver made seat got (got ++ items) pass v
