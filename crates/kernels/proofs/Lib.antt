-- The laws, by what they speak of.
pub mod Walk
pub mod Bit
pub mod Write
pub mod Parts
pub mod Kernel
pub mod Subset
pub mod NextBit
pub mod KernelWalk
pub mod Puts
