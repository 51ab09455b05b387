pub mod LaneLoop
pub mod Answers
