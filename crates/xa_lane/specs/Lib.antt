pub mod Order
pub mod Ends
pub mod Closing
pub mod Senders
pub mod EndSeats
-- The words of this crate, by its name.
pub use Order.{Delivers, FitsOrder, IsMade, Popped, Tied, Within, after_deal, after_get, after_join, after_put}
pub use Order.{dealt_view, log, made_in, marks, of_sender, put_of, receiver_learns, sender_learns, sent_in, taken_in}
pub use Order.{told_in, wrote}
pub use Ends.{IsLaneSize, QueueId, Receiving, SameReceiver, SameSender, Sending, Took, answer_of, at_most_counted}
pub use Ends.{counted, has_ended, has_mark, line_of, new_receiver, new_sender, new_senders, parcel, received, somes}
pub use Ends.{taken_of}
pub use Closing.{AreKnown, Conserves, Covers, EndsLast, HasAllEnds, IsWhy, LeavesNothing, has_end, items_in, kept}
pub use Closing.{left_of, log_of_end}
pub use Senders.{at_place, bare, but_full, sent_at, with_full, with_item}
pub use EndSeats.{EndSeat, end_seat}
pub use declared.name.LaneName.{LaneName}
pub use declared.order.Log.{Log}
pub use declared.order.View.{View}
pub use declared.order.View.TheVariants.{Receives, Sends, Spent}
pub use declared.parcel.Parcel.{Parcel}
pub use declared.parcel.Taken.{Taken}
pub use declared.parcel.Taken.TheVariants.{Empty, EndOf, Item}
