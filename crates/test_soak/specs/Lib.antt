pub mod Soak
-- The words of this crate, by its name.
pub use Soak.{AgreesAt, AllAgree, AreValuesAt, sent_by_all}
