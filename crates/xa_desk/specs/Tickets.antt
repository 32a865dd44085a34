-- What becomes of the other tickets as a desk goes on.
use Rattle.std.specs.Prelude.{◌≢◌}
use Rattle.xa_desk.specs.declared.operation.Operation.{Operation}
use Rattle.xa_desk.specs.DeskViews.{DeskView, TicketView, Owns}

-- every ticket that was owned still is
abbrev pub LeavesTickets : DeskView → DeskView → Type 0
LeavesTickets old new = (t : TicketView) → Owns old t → Owns new t

-- every ticket that was owned still is, but for the operation's
abbrev pub LeavesOthers : DeskView → DeskView → Operation → Type 0
LeavesOthers old new o = (t : TicketView) → Owns old t → t.operation ≢ o → Owns new t
