-- The lanes of an opening, on which nothing was sent.
use Rattle.std.specs.Prelude.{◌≡◌, ℕ, ◌+◌, List}
use Rattle.xa_words.specs.declared.request.Request.{Request}
use Rattle.xa_words.specs.declared.request.Completion.{Completion}
use Rattle.xa_lane.specs.declared.name.LaneName.{LaneName}
use Rattle.xa_lane.specs.Ends.{Sending, Receiving, new_sender, new_receiver}
use Rattle.xa_switch.specs.Columns.{AreLanes}

-- the lane to the manager or thread with this number; the lanes of requests are of kind 0, those of completions of kind
-- 1
abbrev pub lane_to : ℕ → ℕ → ℕ → LaneName
lane_to opening kind number = record { opening = opening; kind = kind; index = number }

module _ {T : Type 0} (opening kind : ℕ) where
  -- the receiver of lane k + 1 with so many senders and places, which has taken nothing
  abbrev pub IsNewReceiver : ℕ → ℕ → ℕ → Receiving T → Type 0
  IsNewReceiver senders room k r = r ≡ new_receiver (lane_to opening kind (k + 1)) r.line room senders

  -- the sender with number i on lane k + 1, which has sent nothing
  abbrev pub IsNewSender : ℕ → ℕ → ℕ → Sending T → Type 0
  IsNewSender room i k s = s ≡ new_sender (lane_to opening kind (k + 1)) s.line room i

  -- the same, and the receiver is that of its lane
  abbrev pub IsNewPair : ℕ → ℕ → ℕ → Sending T → Receiving T → Type 0
  IsNewPair room i k s r = IsNewSender room i k s × (s.line ≡ r.line)

  -- so many lanes, by rising number
  abbrev pub AreNewLanes : ℕ → ℕ → ℕ → List (List (Sending T)) → List (Receiving T) → Type 0
  AreNewLanes senders lanes room columns rs =
      AreLanes (IsNewReceiver senders room) (IsNewPair room) senders lanes columns rs

-- the receiver of the requests to manager m + 1, which has taken nothing
abbrev pub IsRequestEnd : ℕ → ℕ → ℕ → ℕ → Receiving Request → Type 0
IsRequestEnd opening threads queue m r = IsNewReceiver opening 0 threads queue m r

-- the sender of thread t + 1 on the lane to manager m + 1, which has sent nothing
abbrev pub IsRequestSender : ℕ → ℕ → ℕ → ℕ → Sending Request → Type 0
IsRequestSender opening queue t m s = IsNewSender opening 0 queue t m s

-- the receiver of the completions for thread t + 1, which has taken nothing
abbrev pub IsCompletionEnd : ℕ → ℕ → ℕ → ℕ → Receiving Completion → Type 0
IsCompletionEnd opening managers room t r = IsNewReceiver opening 1 managers room t r

-- the sender of manager m + 1 on the lane to thread t + 1, which has sent nothing
abbrev pub IsCompletionSender : ℕ → ℕ → ℕ → ℕ → Sending Completion → Type 0
IsCompletionSender opening room m t s = IsNewSender opening 1 room m t s
