-- What the listing is, and how it is walked.
pub mod Printed
pub mod Walk
