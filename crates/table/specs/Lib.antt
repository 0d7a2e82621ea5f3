-- What the contracts on lent tables cite.
pub mod Layout
pub mod Write
pub mod Start
pub mod Laid
pub mod Becomes
