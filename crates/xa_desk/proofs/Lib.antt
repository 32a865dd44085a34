pub mod Ledgers
pub mod Books
pub mod KeyRows
pub mod Looks
pub mod GoingOn
pub mod Ties
