pub mod Closes
pub mod Keeps
pub mod Parcels
pub mod Promises
