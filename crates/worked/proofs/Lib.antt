-- What the checker computed.
pub mod Worked
pub mod Shortcuts
pub mod Unmade
