pub mod Word
pub mod Position
pub mod Register
pub mod ThreePointTable
