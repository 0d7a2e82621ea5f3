-- The definitions that the contracts cite.
pub mod Wanted
pub mod Moves
pub mod Ends
