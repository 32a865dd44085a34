pub mod Hands
-- The words of this crate, by its name.
pub use Hands.{AreAtFirst, Comes, HasRoomForJobs, HasRoomForAll, IsAt}
pub use declared.hands.Came.{Came}
pub use declared.hands.DoneOf.{DoneOf}
