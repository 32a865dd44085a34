-- What a worker's calls do: their deeds, and what they send.
use Rattle.std.specs.Prelude.{◌≡◌, ℕ, ◌==◌, ◌<◌, Bool, false, cond, List, [], ◌∷◌, ◌++◌, get_or}
use Rattle.xa_base.specs.declared.limits.TheConstants.{MOST_SENDERS}
use Rattle.xa_log.specs.Log.{LogState}
use Rattle.xa_lane.specs.declared.parcel.Parcel.{Parcel}
use Rattle.xa_lane.specs.Ends.{Sending, has_ended, received}
use Rattle.xa_lane.specs.Senders.{sent_at}
use Rattle.xa_log_shared.specs.declared.ask.AppendAnswer.{AppendAnswer}
use Rattle.xa_log_shared.specs.declared.ask.Answered.{Answered}
use Rattle.xa_log_shared.specs.declared.ask.Deed.{Deed}
use Rattle.xa_log_shared.specs.declared.ask.LogRequest.{LogRequest}
use Rattle.xa_log_shared.specs.declared.group.Waiting.{Waiting}
use Rattle.xa_log_shared.specs.Deeds.{Does, answers_in, deeds_in, asked_in, asks_of_coordinator, waits_of}

-- what a coordinator is told by these answers
abbrev pub told_to : ℕ → List Answered → List AppendAnswer
told_to k [] = []
told_to k (a ∷ bs) = cond (a.from == k) (a.answer ∷ told_to k bs) (told_to k bs)

-- on each coordinator's lane just these answers were sent
abbrev pub SentBy : List Answered → List (Sending AppendAnswer) → List (Sending AppendAnswer) → Type 0
SentBy answers lanes lanes' = (k : ℕ) → sent_at k lanes' ≡ sent_at k lanes ++ told_to k answers

-- These deeds more were done, which make of the log what it is, and what they answer was sent. Of what each coordinator
-- asked, what was done and then what waits is what waited and then these requests.
pub record Moves (old new : List (Deed × Unit {0})) (knew : Bool) (before : LogState) (knows : Bool) (now : LogState)
    (lanes lanes' : List (Sending AppendAnswer)) (waiting waiting' : List Waiting) (requests : List (ℕ × LogRequest))
    : Type 0 where
  pub deeds : List Deed
  pub grown : deeds_in new ≡ deeds_in old ++ deeds
  pub does : Does knew before deeds knows now
  pub sent : SentBy (answers_in deeds) lanes lanes'
  pub asked : (k : ℕ) → asked_in k deeds ++ waits_of k waiting' ≡ waits_of k waiting ++ asks_of_coordinator k requests

-- The same of the requests that were taken of the lane.
pub record Works (old new : List (Deed × Unit {0})) (knew : Bool) (before : LogState) (knows : Bool) (now : LogState)
    (lanes lanes' : List (Sending AppendAnswer)) (waiting waiting' : List Waiting)
    (taken taken' : List (Parcel LogRequest)) : Type 0
  where
    pub requests : List (ℕ × LogRequest)
    pub took : (k : ℕ) → received k taken' ≡ received k taken ++ asks_of_coordinator k requests
    pub moves : Moves old new knew before knows now lanes lanes' waiting waiting' requests

-- What a step does. Its deeds are of the requests that it took, each coordinator's in their order; they make of the log
-- what it is; and the answers that it sends are theirs.
pub record Steps (old new : List (Deed × Unit {0})) (knew : Bool) (before : LogState) (knows : Bool) (now : LogState)
    (lanes lanes' : List (Sending AppendAnswer)) (taken taken' : List (Parcel LogRequest)) : Type 0 where
  pub deeds : List Deed
  pub grown : deeds_in new ≡ deeds_in old ++ deeds
  pub asked : (k : ℕ) → received k taken' ≡ received k taken ++ asked_in k deeds
  pub does : Does knew before deeds knows now
  pub sent : SentBy (answers_in deeds) lanes lanes'

-- the coordinators that are noted as ended are those whose end marks were taken
abbrev pub HasNoted : List Bool → List (Parcel LogRequest) → Type 0
HasNoted ended taken = (k : ℕ) → k < MOST_SENDERS → get_or ended k false ≡ has_ended k taken
