-- What is promised of a script's bytes, from the output that waits to the script as a whole.
pub mod Output
pub mod Desk
pub mod Lines
pub mod Pieces
