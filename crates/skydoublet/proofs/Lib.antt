-- Laws of the calls.
pub mod Answered
pub mod OneOutcome
