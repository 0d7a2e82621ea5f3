-- What the demands speak of.
pub mod Run
pub mod Numbers
pub mod Scripts
