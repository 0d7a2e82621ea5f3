-- What a line of a script means.
pub mod Written
pub mod Reading
pub mod Command
