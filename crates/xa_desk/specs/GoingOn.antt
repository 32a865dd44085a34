-- What every call keeps of a desk.
use Rattle.std.specs.Prelude.{◌≡◌, ℕ, ◌≤◌, Bool, List, map}
use Rattle.xa_lane.specs.Ends.{at_most_counted}
use Rattle.xa_desk.specs.LedgerViews.{LedgerView}
use Rattle.xa_desk.specs.DeskViews.{DeskView}
use Rattle.xa_desk.specs.Ended.{EndedView}
use Rattle.xa_desk.specs.DeskSeats.{seat_of_desk, seat_of_ended}
use Rattle.xa_base.specs.Lists.{Begins}
use Rattle.xa_desk.specs.Growth.{HaveGrown}

-- whether the manager takes asynchronous calls, and how many requests are planned for it
abbrev pub plan_of : LedgerView → Bool × ℕ
plan_of a = (a.carries_async, a.plan)

-- the same of each manager
abbrev pub plans : List LedgerView → List (Bool × ℕ)
plans at = map plan_of at

-- new is what old came to by calls
pub record GoesOn (old new : DeskView) : Type 0 where
  -- it has its thread, and the ends of the same lanes with the same numbers
  pub seat : seat_of_desk new ≡ seat_of_desk old
  -- it has as many handles
  pub handles : new.handles ≡ old.handles
  -- it has its managers, and its plan for each
  pub plan : plans new.ledgers ≡ plans old.ledgers
  -- what was sent and collected stays, and more may be after it
  pub lists : HaveGrown old.ledgers new.ledgers
  -- so does what was taken, and what of it was drained
  pub taken : Begins old.completions.taken new.completions.taken
  pub drained : Begins old.drained new.drained
  -- its count of quiet moments doesn't fall
  pub quiet : at_most_counted old.completions.quiet ≤ new.completions.quiet

-- e is what the desk d came to as it ended
pub record GoesOut (d : DeskView) (e : EndedView) : Type 0 where
  -- it has its thread and its seat
  pub thread : e.thread ≡ d.thread
  pub seat : seat_of_ended e ≡ seat_of_desk d
  -- all that was sent and collected is there, and no more
  pub ledgers : e.ledgers ≡ d.ledgers
  pub lists : HaveGrown d.ledgers e.ledgers
