-- Lemmas that proofs of several functions cite.
pub mod Senders
pub mod Rounds
pub mod Shutting
pub mod Resolved
