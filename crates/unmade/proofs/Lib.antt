-- The laws.
pub mod Answered
