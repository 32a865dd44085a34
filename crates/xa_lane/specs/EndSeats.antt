-- What an end of a lane keeps, whatever it does.
use Rattle.std.specs.Prelude.{ℕ}
use Rattle.xa_lane.specs.declared.name.LaneName.{LaneName}
use Rattle.xa_lane.specs.Ends.{QueueId, Sending}

-- of a sender: the name of its lane, which queue that is, and its number there
pub record EndSeat : Type 0 where
  pub lane : LaneName
  pub line : QueueId
  pub index : ℕ

-- the seat of a sender
abbrev pub end_seat : {T : Type 0} → Sending T → EndSeat
end_seat s = record { lane = s.lane; line = s.line; index = s.index }
