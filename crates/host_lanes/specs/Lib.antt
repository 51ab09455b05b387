pub mod LaneByLane
