pub mod Journal
pub mod Outgoing
pub mod Workers
pub mod WorkerSteps
pub mod Stored
pub mod Done
pub mod WorkerSeats
pub mod Inner
pub mod Finished
-- The words of this crate, by its name.
pub use Journal.{Entry, Follows, after_request, codes_in, completion_of, entry, entry_next, owed, requests, tables_next}
pub use Outgoing.{Addressed, Answering, AnswersOrWaits, FindsFull, Flushes, Offers, SendsOrWaits, SameLanes, SendsFirst}
pub use Outgoing.{first_found_full, put_to, sent_each, waiting_at, with_waiting}
pub use Workers.{RequestLane, Extends, IsFinishedWorker, IsHeldUnfit, IsTiedWorker, IsUnfit, Reserved, SameWorker}
pub use Workers.{WorkerView, requests_taken, first_tables, in_hand, new_worker, of_own_thread, of_sender_thread}
pub use WorkerSteps.{Enters, EntersOne, FindsNothing, HasWay, Holds, IsBlocked, IsToldInOrder, Paces, SeesEnd, Stepped}
pub use WorkerSteps.{Takes, step_of}
pub use Stored.{IsStored, LeavesABeginning}
pub use Done.{IsOrdered, IsServed, SameServed, Served, served}
pub use WorkerSeats.{WorkerSeat, seat_of_done, seat_of_worker, worker_seat}
pub use Inner.{AreSet, IsWorker, working_of}
pub use Finished.{IsDone, served_of}
pub use declared.step.WorkerStep.{WorkerStep}
pub use declared.step.WorkerStep.TheVariants.{Blocked, Did, Empty, EndSeen, Late}
pub use declared.worker.Worker.TheInside.{Inside}
