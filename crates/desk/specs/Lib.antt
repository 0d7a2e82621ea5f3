-- What the desk does for a line, and what it prints.
pub mod Use
pub mod Obeys
pub mod Script
