-- The laws, in the order in which they build on each other.
pub mod Newlines
pub mod Waiting
pub mod Running
pub mod Rest
pub mod Cut
pub mod Turns
pub mod Reading
