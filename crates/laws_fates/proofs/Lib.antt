pub mod ShutLaw
pub mod Moves
pub mod FateLaw
pub mod ValueLaw
pub mod SumLaw
