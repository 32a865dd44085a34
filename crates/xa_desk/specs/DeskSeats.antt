-- What a desk keeps, whatever it does.
use Rattle.std.specs.Prelude.{ℕ, List, map}
use Rattle.xa_words.specs.declared.request.Request.{Request}
use Rattle.xa_words.specs.declared.request.Completion.{Completion}
use Rattle.xa_lane.specs.declared.name.LaneName.{LaneName}
use Rattle.xa_lane.specs.Ends.{QueueId, Sending, Receiving}
use Rattle.xa_lane.specs.EndSeats.{EndSeat, end_seat}
use Rattle.xa_desk.specs.DeskViews.{DeskView}
use Rattle.xa_desk.specs.Ended.{EndedView}

-- of a desk: its thread, its ends of the lanes to the managers, by rising manager, and its own lane
pub record DeskSeat : Type 0 where
  pub thread : ℕ
  pub ends : List EndSeat
  pub lane : LaneName
  pub line : QueueId

-- the seat of a desk by what it holds
abbrev pub desk_seat : ℕ → List (Sending Request) → Receiving Completion → DeskSeat
desk_seat t senders receiver =
    record { thread = t; ends = map end_seat senders; lane = receiver.lane; line = receiver.line }

-- that of a desk at work
abbrev pub seat_of_desk : DeskView → DeskSeat
seat_of_desk d = desk_seat d.thread d.requests d.completions

-- and of one that has ended
abbrev pub seat_of_ended : EndedView → DeskSeat
seat_of_ended d = desk_seat d.thread d.requests d.completions
