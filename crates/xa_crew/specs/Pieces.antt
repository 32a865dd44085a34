-- What the desks and the workers of one opening have come to.
use Rattle.std.specs.Prelude.{◌≡◌, List}
use Rattle.xa_desk.specs.DeskViews.{DeskView}
use Rattle.xa_desk.specs.Ended.{EndedView, Ends}
use Rattle.xa_desk.specs.GoingOn.{GoesOn}
use Rattle.xa_worker.specs.Workers.{WorkerView}
use Rattle.xa_worker.specs.Done.{Served, IsServed, SameServed}
use Rattle.xa_switch.specs.Plans.{Setup, IsWithinLimits}
use Rattle.xa_switch.specs.OpenedPieces.{AreOfOneOpening}
use Rattle.xa_switch.specs.Belonging.{seat_of_worker, seat_of_done}
use Rattle.xa_base.specs.Lists.{Pairwise}

-- The desk went on by calls, and then it ended.
pub record HasGone (d : DeskView) (e : EndedView) : Type 0 where
  pub last : DeskView
  pub goes_on : GoesOn d last
  pub ends : Ends last e

-- The worker that has run is this one, and the last end mark was taken.
pub record HasServed (w : WorkerView) (d : Served) : Type 0 where
  pub same : SameServed w d
  pub served : IsServed d
  pub seat : seat_of_done d ≡ seat_of_worker w

-- These are all desks and all workers of one opening that was made with this, by rising number: the desks have ended,
-- and the workers have run.
pub record ArePiecesOf (p : Setup) (ended : List EndedView) (done : List Served) : Type 0 where
  pub desks : List DeskView
  pub workers : List WorkerView
  pub limits : IsWithinLimits p.numbers p.managers
  pub opened : AreOfOneOpening p desks workers
  pub gone : Pairwise HasGone desks ended
  pub served : Pairwise HasServed workers done
