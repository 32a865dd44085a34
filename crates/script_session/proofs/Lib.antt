pub mod Committed
