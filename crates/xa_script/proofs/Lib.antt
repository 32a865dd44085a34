pub mod Runs
pub mod TurnsSoFar
