pub mod Stores
-- The words of this crate, by its name.
pub use Stores.{AreDurable, Keeps}
