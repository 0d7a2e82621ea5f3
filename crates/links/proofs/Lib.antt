-- The laws of the graph in its buffer.
pub mod Chain
pub mod Stored
pub mod Kept
pub mod Listed
pub mod Added
pub mod Root
pub mod Lent
