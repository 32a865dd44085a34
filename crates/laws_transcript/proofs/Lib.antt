pub mod Calls
pub mod Entries
pub mod Branches
pub mod Lines
pub mod Opened
pub mod Told
