pub mod Passing
pub mod Finishing
pub mod LaidParts
