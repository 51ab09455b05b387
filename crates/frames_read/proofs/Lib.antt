mod Scans
mod Placed
pub mod Lengths
pub mod Taken
