-- The steps of a round: each is one request, and branches that are asked nothing are passed over.
use Rattle.std.specs.Prelude.{◌≡◌, ℕ, suc, Bool, true, false, if◌then◌else◌, Option, None, Some, List, []}
use Rattle.std.specs.Prelude.{◌∷◌, is_none, MatchOption}
use Rattle.std.specs.List.{slice_get}
use Rattle.xa_desk.specs.DeskViews.{DeskView, TicketView}
use Rattle.xa_driver.specs.Asks.{Ask}
use Rattle.xa_driver.specs.declared.round.Round.{Round}
use Rattle.xa_driver.specs.Idling.{IdlesToCollect, IdlesToSend}
use Rattle.xa_driver.specs.UnderWay.{CollectsAsk, SendsAsk, Stays, next_ask, next_ticket}

-- there is a next one, and nothing is asked of it
abbrev pub is_passed : Option Ask → Bool
is_passed None = false
is_passed (Some k) = is_none k.op

-- what was asked that is collected next, if anything is in flight
abbrev pub asked_first : List (Option TicketView) → Round → Option Ask
asked_first [] r = None
asked_first (t ∷ ts) r = slice_get r.asks.items r.collected

abbrev pub next_collected : Round → Option Ask
next_collected r = asked_first r.tickets.items r

-- how many of these are asked anything
abbrev pub count_asked : List Ask → ℕ
count_asked [] = 0
count_asked (k ∷ ks) = if is_none k.op then count_asked ks else suc (count_asked ks)

-- From one round to the other those were passed over that came next and are asked nothing, each by this step.
pub data Passes (step : Ask → Round → Round → Type 0) (old : Round) : Round → Type 0 where
  starts : (new : Round) → new ≡ old → Passes step old new
  passes : (k : Ask) (mid new : Round) → Passes step old mid → k.op ≡ None → step k mid new → Passes step old new

-- it came next, and was put among those in flight without a request; or it came next, and was collected without one
abbrev pub SendsNothing : DeskView → Ask → Round → Round → Type 0
SendsNothing desk k old new = (next_ask old ≡ Some k) × SendsAsk k old new desk desk

abbrev pub CollectsNothing : DeskView → Ask → Round → Round → Type 0
CollectsNothing desk k old new = (next_collected old ≡ Some k) × CollectsAsk None old new desk desk

-- The next request was sent, and the idles were on its manager, after each time that its lane was found full; or there
-- is none.
pub record SendsNext {I : Type 0} (by : ℕ → I → I → Type 0) (old new : Round) (desk now : DeskView) (before after : I)
    (sent : Bool) : Type 0 where
  pub mid : Round
  pub passed : Passes (SendsNothing desk) old mid
  pub asks : is_passed (next_ask mid) ≡ false
  pub sends : MatchOption (next_ask mid) ((sent ≡ false) × Stays mid new desk now)
      (λ k. (sent ≡ true) × SendsAsk k mid new desk now)
  pub waited : MatchOption (next_ask mid) (after ≡ before) (λ k. IdlesToSend by k desk now before after)

-- The request that is longest in flight was collected, and the idles were on its manager, after each look that ended
-- quiet; or there is none.
pub record CollectsNext {I : Type 0} (by : ℕ → I → I → Type 0) (old new : Round) (desk now : DeskView)
    (before after : I) (collected : Bool) : Type 0 where
  pub mid : Round
  pub passed : Passes (CollectsNothing desk) old mid
  pub asks : is_passed (next_collected mid) ≡ false
  pub collects : MatchOption (next_ticket mid) ((collected ≡ false) × Stays mid new desk now)
      (λ t. (collected ≡ true) × CollectsAsk t mid new desk now)
  pub waited : MatchOption (next_ticket mid) (after ≡ before) (λ t. IdlesToCollect by t desk now before after)
