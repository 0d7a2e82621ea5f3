-- What the contracts of the set numbers cite.
pub mod Lookup
