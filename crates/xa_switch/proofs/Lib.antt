pub mod Dealing
pub mod Meeting
pub mod Pieces
pub mod SettledOpenings
