pub mod Lanes
pub mod Ties
pub mod Storing
