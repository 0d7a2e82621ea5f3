-- The form as tests on lent numbers.
pub mod Rules
pub mod Masks
pub mod Sets
pub mod Formed
