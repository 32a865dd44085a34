pub mod Sent
pub mod Voted
pub mod Named
pub mod Worked
pub mod Tried
pub mod Making
