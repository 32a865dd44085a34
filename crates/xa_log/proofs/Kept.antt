-- The room of a map whose spare places don't get fewer.
use Rattle.xa_base.proofs.{◌≡◌, ◌≤◌, ℕ, Bool, true, false, arith}
use Rattle.xa_log.specs.{room_by_spare}

pub room_stays : (reserved : Bool) (old new room : ℕ) → old ≤ new → room_by_spare reserved old ≡ room
    → room ≤ room_by_spare reserved new
room_stays true old new room le is = omega (arith, le, is)
room_stays false old new room le is = omega (arith, is)
