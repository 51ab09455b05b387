pub mod ThreePointRows
pub mod Positions
pub mod PrintedRows
pub mod SingleStep
pub mod Words
pub mod Rounding
