-- Begin with Demands.
pub mod Demands
pub mod Made
pub mod Refused
pub mod Checks
pub mod FormKept
pub mod Room
pub mod Spared
pub mod Scripts
