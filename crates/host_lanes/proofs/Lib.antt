mod PartByPart
pub mod LaneLoop
mod LanesWritten
mod Started
