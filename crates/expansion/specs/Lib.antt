-- What the contracts on expansion cite.
pub mod Expansion
pub mod Inner
