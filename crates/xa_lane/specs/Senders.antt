-- What is said of several senders, each of a lane of its own.
use Rattle.std.specs.Prelude.{ℕ, zero, suc, List, [], ◌∷◌, ◌++◌}
use Rattle.xa_lane.specs.Ends.{Sending, counted}

-- the list with the element at place k changed
abbrev pub at_place : {A : Type 0} → ℕ → (A → A) → List A → List A
at_place k f [] = []
at_place zero f (x ∷ xs) = f x ∷ xs
at_place (suc k) f (x ∷ xs) = x ∷ at_place k f xs

module _ {T : Type 0} where
  -- the sender once it has sent one item more
  abbrev pub with_item : T → Sending T → Sending T
  with_item x s = record s { sent = s.sent ++ x ∷ [] }

  -- the sender once it has met one full moment more
  abbrev pub with_full : Sending T → Sending T
  with_full s = record s { full = counted s.full }

  -- a sender but for its full moments
  abbrev pub but_full : Sending T → Sending T
  but_full s = record s { full = 0 }

  -- a sender, whatever it has sent: its lane and its number
  abbrev pub bare : Sending T → Sending T
  bare s = record s { sent = []; full = 0 }

  -- what the sender at place k has sent
  abbrev pub sent_at : ℕ → List (Sending T) → List T
  sent_at k [] = []
  sent_at zero (s ∷ ss) = s.sent
  sent_at (suc k) (s ∷ ss) = sent_at k ss
