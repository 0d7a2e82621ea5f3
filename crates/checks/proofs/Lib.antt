-- From the code's searches to the model's checks.
pub mod Ranges
pub mod States
pub mod Search
pub mod Checked
pub mod Deleting
pub mod Adding
pub mod Fitting
