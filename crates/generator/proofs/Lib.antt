-- From the checks and the changes to the model's calls.
pub mod Promises
pub mod Changing
pub mod Calls
pub mod OneOutcome
