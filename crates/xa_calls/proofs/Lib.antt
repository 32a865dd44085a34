pub mod Effects
pub mod Kept
pub mod Morphisms
mod Recovered
pub mod Refusals
