pub mod SameKernel
pub mod Found
