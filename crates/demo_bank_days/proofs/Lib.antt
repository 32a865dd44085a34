pub mod Come
pub mod Out
pub mod Made
pub mod Went
pub mod Together
pub mod DayLaw
pub mod Nightly
pub mod Moved
