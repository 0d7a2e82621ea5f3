-- The laws, in the order in which they build on each other.
pub mod Bounds
pub mod Rights
pub mod InUse
pub mod Made
pub mod Obeyed
pub mod OneOutcome
pub mod Scripts
pub mod NoTable
