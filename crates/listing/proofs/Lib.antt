-- The laws, in the order in which they build on each other.
pub mod Listed
pub mod Seen
pub mod Lengths
pub mod Walks
