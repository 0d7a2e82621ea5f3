-- The laws, in the order in which they build on each other.
pub mod Reading
pub mod Spaced
pub mod Meaning
pub mod OneReading
pub mod Telling
