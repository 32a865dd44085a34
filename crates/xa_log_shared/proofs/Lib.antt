pub mod Deeds
pub mod Moves
pub mod Own
