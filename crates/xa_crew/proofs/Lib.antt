pub mod Pieces
pub mod Stores
pub mod WorkersOn
