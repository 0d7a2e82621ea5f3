-- The definitions that the contracts cite.
pub mod Parse
pub mod Check
pub mod Reading
