mod CoefficientTable
mod Columns
mod Scales
mod Mean
mod Sixths
pub mod Sizes
