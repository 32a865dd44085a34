pub mod Adds
pub mod Became
pub mod Outcomes
pub mod Stopped
