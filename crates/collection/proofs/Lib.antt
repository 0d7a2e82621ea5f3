-- Laws of reach and of collection.
pub mod Queue
pub mod Led
pub mod Scanned
pub mod FreeSets
pub mod FreeRules
pub mod Turn
pub mod Collected
pub mod Counted
