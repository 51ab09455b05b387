pub mod LanesAlone
pub mod OneLane
pub mod LaneTraces
pub mod LanesThird
pub mod OneLaneFeed
pub mod LaneExamples
