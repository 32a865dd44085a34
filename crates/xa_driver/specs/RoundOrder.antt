-- In which order the requests of a round, and of a commit, are sent and collected.
use Rattle.std.specs.Prelude.{◌≡◌, Bool, false, not, if◌then◌else◌, Option, None, Some, List, [], ◌∷◌, ◌++◌, drop, map}
use Rattle.xa_words.specs.declared.request.Op.{Op}
use Rattle.xa_desk.specs.declared.event.Event.{Event}
use Rattle.xa_desk.specs.declared.event.Event.TheVariants.{Sent, Collected}
use Rattle.xa_desk.specs.declared.operation.Operation.{Operation}
use Rattle.xa_desk.specs.LedgerViews.{LedgerView, learnt_shut}
use Rattle.xa_desk.specs.DeskViews.{DeskView, TicketView, ledger, next_operation}
use Rattle.xa_driver.specs.declared.branch.Branch.{Branch}
use Rattle.xa_driver.specs.declared.round.Round.{Round}
use Rattle.xa_driver.specs.Asks.{Ask, Asks, SameAsks}
use Rattle.xa_driver.specs.Rounds.{first_ask, second_ask, third_ask}

-- each was sent; each was collected
abbrev pub sendings : List Operation → List Event
sendings os = map (λ o. Sent o) os

abbrev pub collections : List Operation → List Event
collections os = map (λ o. Collected o) os

-- all were sent, and only then was any collected
abbrev pub round_of : List Operation → List Event
round_of os = sendings os ++ collections os

-- something is asked, and the manager isn't learnt to be shut
abbrev pub goes_out : Option Op → LedgerView → Bool
goes_out None a = false
goes_out (Some op) a = not (learnt_shut a)

-- the operations of those requests that go out
abbrev pub sent_of : List Ask → List LedgerView → List Operation
sent_of [] at = []
sent_of (k ∷ ks) at =
    if goes_out k.op (ledger at k.manager) then next_operation at k.manager ∷ sent_of ks at else sent_of ks at

-- the operations that have a ticket
abbrev pub operations_of : List (Option TicketView) → List Operation
operations_of [] = []
operations_of (None ∷ rs) = operations_of rs
operations_of (Some t ∷ rs) = t.operation ∷ operations_of rs

-- ---- a round as it goes on

-- more was sent, which has tickets now, and nothing was collected
pub record SendsMore (ts ts' : List (Option TicketView)) (old new : DeskView) : Type 0 where
  pub more : List Operation
  pub events : new.events ≡ old.events ++ sendings more
  pub tickets : operations_of ts' ≡ operations_of ts ++ more

-- the first were collected, whose tickets are spent, and nothing was sent
pub record CollectsFirst (ts ts' : List (Option TicketView)) (old new : DeskView) : Type 0 where
  pub first : List Operation
  pub events : new.events ≡ old.events ++ collections first
  pub tickets : operations_of ts ≡ first ++ operations_of ts'

-- What wasn't sent was, and only then was anything collected: all that was in flight, which are those of its requests
-- that weren't collected before.
pub record SendsThenCollects (r : Round) (old new : DeskView) : Type 0 where
  pub more : List Operation
  pub events : new.events ≡ old.events ++ (sendings more ++ collections (operations_of r.tickets.items ++ more))
  pub all : operations_of r.tickets.items ++ more ≡ sent_of (drop r.collected r.asks.items) r.before.value.ledgers

-- Of a round's requests all that go out were sent, and only then was any collected: the first of them, or none.
pub record GoesAsFar (ks : List Ask) (at : List LedgerView) (old new : DeskView) : Type 0 where
  pub first : List Operation
  pub rest : List Operation
  pub all : sent_of ks at ≡ first ++ rest
  pub events : new.events ≡ old.events ++ (sendings (first ++ rest) ++ collections first)

-- ---- whole rounds

-- The requests of a round that go out were all sent, and only then was any collected.
abbrev pub GoesAsRound : List Ask → DeskView → DeskView → Type 0
GoesAsRound ks old new = new.events ≡ old.events ++ round_of (sent_of ks old.ledgers)

-- and nothing else was done
pub record IsRound (ks : List Ask) (old new : DeskView) : Type 0 where
  pub asked : Asks ks old.ledgers new.ledgers
  pub ordered : GoesAsRound ks old new

-- A commit is three rounds: what each branch is asked first, which is to prepare; then by the decision and its vote;
-- and last by its second code. So every Prepare is sent before any vote is collected, and the Forgets are in flight
-- together.
pub record IsThreeRounds (bs : List Branch) (commit : Bool) (old new : DeskView) : Type 0 where
  pub voted : DeskView
  pub told : DeskView
  pub firsts : List Ask
  pub seconds : List Ask
  pub thirds : List Ask
  pub first_same : SameAsks (map first_ask bs) firsts
  pub second_same : SameAsks (map (second_ask commit) firsts) seconds
  pub third_same : SameAsks (map third_ask seconds) thirds
  pub first : IsRound firsts old voted
  pub second : IsRound seconds voted told
  pub third : IsRound thirds told new
