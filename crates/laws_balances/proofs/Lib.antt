pub mod Course
pub mod InARow
pub mod Legs
pub mod AtWork
