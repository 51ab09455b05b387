pub mod LaneFeeding
pub mod LaneDemand
