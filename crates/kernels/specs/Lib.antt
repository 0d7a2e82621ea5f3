-- The definitions that the contracts cite.
pub mod Bit
pub mod Bits
pub mod Walk
pub mod Write
pub mod Kernel
