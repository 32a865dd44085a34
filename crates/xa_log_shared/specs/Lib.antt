pub mod Asking
pub mod Deeds
pub mod Moves
-- The words of this crate, by its name.
pub use Asking.{Appended, AreDropped, Asked, LaneToWorker, AsksToAppend, AsksToForget, AsksToForgetAll, IsWorkersAnswer}
pub use Asking.{HasNoRoomForMore, Sends, TakesAnswer, TakesEnd, client_state, decision, others, own_records}
pub use Deeds.{AreBelow, AreRight, AreUnknown, Does, IsRight, IsRightAnswer, IsToldBy, IsUnknownDeed, Loses, Settles}
pub use Deeds.{after, after_answer, after_deed, answer_each, answers_of_deed, answered_by, answers_in, as_waiting}
pub use Deeds.{asked_by, asked_if, asked_in, asks_of_coordinator, deeds_in, is_clash, records_waiting, tran_in}
pub use Deeds.{waits_of}
pub use Moves.{HasNoted, SentBy, Steps, Works, told_to}
pub use declared.ask.AppendAnswer.{AppendAnswer}
pub use declared.ask.AppendAnswer.TheVariants.{Refused, Taken, Unknown}
pub use declared.ask.Answered.{Answered}
pub use declared.ask.LogRequest.{LogRequest}
pub use declared.ask.LogRequest.TheVariants.{Append, Forget}
pub use declared.ask.Deed.{Deed}
pub use declared.ask.Deed.TheVariants.{IsRefused}
pub use declared.group.Waiting.{Waiting}
