pub mod Kernel
pub mod Clips
pub mod Value
pub mod Distance
pub mod Demand2
pub mod Sides
pub mod Halves
pub mod Excess
