pub mod Block
pub mod Tried
