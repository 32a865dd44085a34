pub mod Replay
-- The words of this crate, by its name.
pub use Replay.{Agrees, ShowsValues, WasOpened, numbers_of_thread}
