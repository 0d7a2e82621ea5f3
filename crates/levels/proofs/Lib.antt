-- The laws of levels.
pub mod Sparse
pub mod Below
