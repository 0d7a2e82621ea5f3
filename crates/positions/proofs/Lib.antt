-- The laws that the proofs of the functions cite.
pub mod Kept
pub mod Turns
pub mod Settling
pub mod Ends
pub mod Positions
