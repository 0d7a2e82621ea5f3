-- Laws of the work area.
pub mod Keys
pub mod Reached
pub mod Inserted
pub mod Taken
pub mod SameKeys
pub mod Gathered
pub mod Placed
pub mod Store
pub mod Graphed
