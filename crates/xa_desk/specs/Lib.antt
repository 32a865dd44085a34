pub mod LedgerViews
pub mod DeskViews
pub mod Kept
pub mod Looks
pub mod Ledger
pub mod Slots
pub mod Marks
pub mod Book
pub mod Tickets
pub mod Lanes
pub mod Ended
pub mod Parts
pub mod EndedParts
pub mod DeskSeats
pub mod Growth
pub mod GoingOn
pub mod Waits
-- The words of this crate, by its name.
pub use LedgerViews.{IsBalanced, LedgerView, is_collected, is_rm_fail, learnt_shut, new_ledger, numbers, with_collected}
pub use LedgerViews.{with_sent}
pub use DeskViews.{DeskView, IsHandle, IsKnown, IsLeast, IsLeastFree, IsLoose, IsOut, IsSent, Owns, TicketView}
pub use DeskViews.{after_collected, after_sent, asked_at, call_refusal, collected_from, completed, drained_code}
pub use DeskViews.{handle_refusal, is_asked, is_known, keeps_at, kept_code, ledger, is_completed_by, next_operation}
pub use DeskViews.{no_ledger}
pub use DeskViews.{opening_of, operation_code, operation_of, outstanding, put_ledger, reach_refusal, ready_at}
pub use DeskViews.{ready_with, room_at, room_refusal, sent_to, spent_refusal, submit_refusal, ticket_code, ticket_of}
pub use Kept.{AllKept, HoldsNone}
pub use Looks.{Collects, CollectsKept, CollectsLeast, CollectsTaken, Drains, Draws, DrawsFor, EndsQuiet, LooksOnce}
pub use Looks.{Pops, TakesKept, after_quiet, drawn, first, other, start}
pub use Ledger.{IsLedger, ledger_of}
pub use Slots.{AreKeys, AreTold, EntersCode, EntersHandle, HasKept, HasSlot, IsBooks, IsOrderly, KeysView}
pub use Slots.{collected_total, kept_of, key_of_operation, logged, no_keys, planned_total, ready_count, ready_weight}
pub use Slots.{row_of_manager, with_key}
pub use Marks.{AreKept, AreReady, is_marked}
pub use Book.{IsBook, IsDeskWithinLimits, desk_of}
pub use Tickets.{LeavesOthers, LeavesTickets}
pub use Lanes.{AreEnds, AreEndsTo, AreUnused, IsDesk, IsEndTo, IsPartOf, IsTied, PartsView, WasDrained, after_full}
pub use Lanes.{after_fulls, arrived, new_desk, new_ledgers, next_request, nothing, numbered, submitted, with_last}
pub use Lanes.{without_last}
pub use Ended.{AreBalanced, EndedView, Ends, IsEndedDesk}
pub use Parts.{AreParts, carried, parts_view}
pub use EndedParts.{AreEndedParts, ended_of}
pub use DeskSeats.{DeskSeat, desk_seat, seat_of_desk, seat_of_ended}
pub use Growth.{HasGrown, HaveGrown}
pub use GoingOn.{GoesOn, GoesOut, plan_of, plans}
pub use Waits.{Idles, IsMissing, MarkEnds, MarksEnd, NothingIsReady, SendsAndWaits, WaitsFor, WaitsForAny, begins}
pub use Waits.{found_full, idles}
pub use declared.event.Event.{Event}
pub use declared.event.Event.TheVariants.{Collected, Sent}
pub use declared.found.Found.TheVariants.{Its}
pub use declared.operation.Operation.{Operation}
pub use declared.operation.Slot.{Slot}
pub use declared.refused.Refused.{Refused}
pub use declared.refused.Refused.TheVariants.{Full, NoSuchManager, Shut, Spent, TooMany}
