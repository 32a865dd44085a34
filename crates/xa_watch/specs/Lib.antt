pub mod Runs
-- The words of this crate, by its name.
pub use Runs.{RunComes, IsAtRun, IsBack}
