pub mod Requests
pub mod Flights
pub mod Stepping
pub mod Calls
pub mod Progress
pub mod Mapped
pub mod EachLeft
pub mod AtDeath
