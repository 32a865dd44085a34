pub mod Lists
pub mod Sums
pub mod Maps
-- The words of this crate, by its name.
pub use Lists.{Begins, Chain, IsUpTo, Pairwise, more, none}
pub use Sums.{total}
pub use Maps.{any_entry, map_values}
pub use declared.limits.TheConstants.{MOST_MANAGERS, MOST_QUEUED, MOST_REQUESTS}
