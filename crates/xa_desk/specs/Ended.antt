-- What contracts see of a desk that has ended.
use Rattle.std.specs.Prelude.{◌≡◌, ℕ, List, map}
use Rattle.xa_words.specs.declared.request.Request.{Request}
use Rattle.xa_words.specs.declared.request.Completion.{Completion}
use Rattle.xa_lane.specs.Ends.{Sending, Receiving}
use Rattle.xa_lane.specs.Senders.{but_full}
use Rattle.xa_desk.specs.LedgerViews.{LedgerView, IsBalanced}
use Rattle.xa_desk.specs.DeskViews.{DeskView, IsKnown, ledger}
use Rattle.xa_desk.specs.Lanes.{IsTied}

-- the thread, its ledger with each manager, what was drained, its ends of the lanes to the managers, which have sent
-- their end marks, and its end of the lane of its completions
pub record EndedView : Type 0 where
  pub thread : ℕ
  pub ledgers : List LedgerView
  pub drained : List Completion
  pub requests : List (Sending Request)
  pub completions : Receiving Completion

-- the desk has ended: all is as it was, but that lanes may have been found full
pub record Ends (d : DeskView) (e : EndedView) : Type 0 where
  pub thread : e.thread ≡ d.thread
  pub ledgers : e.ledgers ≡ d.ledgers
  pub drained : e.drained ≡ d.drained
  pub requests : map but_full e.requests ≡ map but_full d.requests
  pub completions : e.completions ≡ d.completions

-- each number that was sent to a manager was collected once, and no other
abbrev pub AreBalanced : List LedgerView → Type 0
AreBalanced at = (m : ℕ) → IsKnown at m → IsBalanced (ledger at m)

-- what is known of every desk that has ended
pub record IsEndedDesk (e : EndedView) : Type 0 where
  pub tied : IsTied e.thread e.ledgers e.drained e.requests e.completions
  pub settled : AreBalanced e.ledgers
