-- How the walks over a closure's words come to what the model says.
pub mod Rules
pub mod Seen
pub mod UnderWay
pub mod Closed
pub mod Walk
pub mod Written
