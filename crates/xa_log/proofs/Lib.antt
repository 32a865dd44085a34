pub mod Transactions
pub mod Kept
pub mod Trials
