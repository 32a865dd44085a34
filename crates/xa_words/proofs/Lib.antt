pub mod XidFields
pub mod ManagerSets
pub mod Xids
