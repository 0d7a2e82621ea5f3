-- What the contracts cite.
pub mod Reach
pub mod Sweep
pub mod Room
