pub mod Lines
pub mod CommitLemmas
pub mod Scripts
pub mod StepLemmas
