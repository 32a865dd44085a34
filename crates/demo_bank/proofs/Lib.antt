pub mod Legs
pub mod Only
pub mod Named
pub mod Days
