pub mod Requests
pub mod Sent
pub mod Works
pub mod Units
-- The words of this crate, by its name.
pub use Requests.{CallsOp, CollectsOp, IsCollected, QueueIsFull, IsNoHandle, IsPut, IsTurnedAway, PutsAtLast, PutsOp}
pub use Requests.{StaysSo, after_called, called, carries_async, done, failed, nothing, op_of_step, uncalled}
pub use Sent.{HasSent, HaveSent, IsFor, IsOpenRm, NamesOnly}
pub use Works.{CallsFor, CalledOp, CallsBranch, CallsBranches, CallsOps, CanFly, CollectsAll, GivesUp, Got, HasDoneWork}
pub use Works.{HaveWorked, OpensAll, OpensAt, Put, PutsRequests, Tries, TriesInFlight, are_placed, changes_at}
pub use Works.{in_flight, in_turn, ops_of, requests_at, requests_of_branches, steps_in}
pub use Units.{AreFew, ComesOfCommit, HaveRoomToWork, IfLost, IsGivenUp, IsRefused, LeavesKnown, LosesRecord, MayBegin}
pub use Units.{Transacts, has_died, is_last, decided_to_commit}
pub use declared.in_flight.Flight.{Flight}
pub use declared.step.WorkStep.{WorkStep}
pub use declared.step.WorkStep.TheVariants.{Add, End, Start}
pub use declared.unit.Change.{Change}
pub use declared.unit.Refusal.TheVariants.{GivenUp, NotBegun}
pub use declared.unit.TheConstants.{AFTERWARDS}
pub use declared.unit.WorkOutcome.{WorkOutcome}
pub use declared.unit.WorkOutcome.TheVariants.{Commit, Refused}
