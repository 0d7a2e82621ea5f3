-- What the contracts of the checks cite.
pub mod Find
pub mod Found
