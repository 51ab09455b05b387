pub mod Parts
pub mod LaneStates
pub mod Windows
