pub mod Moments
pub mod Tables
pub mod Places
pub mod Stands
pub mod Grouped
pub mod Noted
