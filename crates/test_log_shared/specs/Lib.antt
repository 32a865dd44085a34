pub mod Puts
-- The words of this crate, by its name.
pub use Puts.{put_records}
