pub mod Words
-- The words of this crate, by its name.
pub use Words.{AreWords, IsMode, word_of}
pub use declared.mode.RunMode.{RunMode}
