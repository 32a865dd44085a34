pub mod Rows
pub mod Found
