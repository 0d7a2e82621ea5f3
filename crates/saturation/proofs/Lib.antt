-- How the steps come together.
pub mod Table
pub mod Does
pub mod Reductions
pub mod Works
pub mod Nodes
pub mod Passed
pub mod Shifted
pub mod Marks
