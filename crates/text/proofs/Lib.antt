-- The laws, in the order in which they build on each other.
pub mod Decimal
pub mod Putting
pub mod Digits
pub mod Newlines
