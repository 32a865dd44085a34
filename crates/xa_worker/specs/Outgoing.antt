-- What contracts see of the lanes on which a worker sends.
use Rattle.std.specs.Prelude.{◌≡◌, ◌≢◌, ◌⊎◌, ℕ, ◌==◌, Bool, true, false, cond, List, [], ◌∷◌, ◌++◌, map}
use Rattle.xa_words.specs.declared.request.Completion.{Completion}
use Rattle.xa_lane.specs.Ends.{Sending}
use Rattle.xa_lane.specs.Senders.{at_place, with_item, with_full, bare, sent_at}

-- a sender of completions
abbrev pub Answering : Type 0
Answering = Sending Completion

-- a completion, with the place of its lane
abbrev pub Addressed : Type 0
Addressed = ℕ × Completion

-- the senders by rising thread, that of thread k + 1 at place k, and the completions that wait, oldest first
pub record Outgoing : Type 0 where
  pub senders : List Answering
  pub waiting : List Addressed

-- the same lanes in the same order
abbrev pub SameLanes : List Answering → List Answering → Type 0
SameLanes ss ts = map bare ts ≡ map bare ss

-- those of the completions that are for place k
abbrev pub waiting_at : ℕ → List Addressed → List Completion
waiting_at k [] = []
waiting_at k (p ∷ rest) = cond (p.0 == k) (p.1 ∷ waiting_at k rest) (waiting_at k rest)

-- what was sent on the lane at place k, and then what waits for it
abbrev pub put_to : ℕ → Outgoing → List Completion
put_to k o = sent_at k o.senders ++ waiting_at k o.waiting

-- ---- completions that are sent

-- the senders once these were sent, one after another
abbrev pub sent_each : List Addressed → List Answering → List Answering
sent_each [] ss = ss
sent_each (p ∷ rest) ss = sent_each rest (at_place p.0 (with_item p.1) ss)

-- the senders once the first of these, if there is one, has found its lane full
abbrev pub first_found_full : List Addressed → List Answering → List Answering
first_found_full [] ss = ss
first_found_full (p ∷ rest) ss = at_place p.0 with_full ss

-- the first that waits was sent
pub record SendsFirst (o o' : Outgoing) : Type 0 where
  pub first : Addressed
  pub waits : o.waiting ≡ first ∷ o'.waiting
  pub senders : o'.senders ≡ at_place first.0 (with_item first.1) o.senders

-- the first that waits still does, since its lane was full
pub record FindsFull (o o' : Outgoing) : Type 0 where
  pub first : Addressed
  pub others : List Addressed
  pub waits : o.waiting ≡ first ∷ others
  pub rest : o' ≡ record o { senders = at_place first.0 with_full o.senders }

-- those that wait are sent, oldest first, as far as the first whose lane is full
pub record Flushes (o o' : Outgoing) : Type 0 where
  pub sent : List Addressed
  pub waits : o.waiting ≡ sent ++ o'.waiting
  pub senders : o'.senders ≡ first_found_full o'.waiting (sent_each sent o.senders)

-- the same, or, while a store owes, nothing is offered
abbrev pub Offers : Bool → Outgoing → Outgoing → Type 0
Offers false o o' = Flushes o o'
Offers true o o' = (o' ≡ o) ⊎ Flushes o o'

-- c waits for the lane at place k, behind those that wait
abbrev pub with_waiting : ℕ → Completion → Outgoing → Outgoing
with_waiting k c o = record o { waiting = o.waiting ++ (k, c) ∷ [] }

-- c was sent on the lane at place k, or waits for it, since it was full
abbrev pub SendsOrWaits : Outgoing → ℕ → Completion → Outgoing → Type 0
SendsOrWaits o k c o' =
    (o' ≡ record o { senders = at_place k (with_item c) o.senders }) ⊎
    (o' ≡ with_waiting k c (record o { senders = at_place k with_full o.senders }))

-- where a store owes, or others wait, c waits behind them, and else it is sent, if its lane has room
abbrev pub AnswersOrWaits : Bool → Outgoing → ℕ → Completion → Outgoing → Type 0
AnswersOrWaits owing o k c o' =
    ((owing ≡ false) × (o.waiting ≡ []) × SendsOrWaits o k c o') ⊎
    (((owing ≡ true) ⊎ (o.waiting ≢ [])) × (o' ≡ with_waiting k c o))
