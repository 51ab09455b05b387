pub mod Ring
pub mod Queue
pub mod QueueCalls
pub mod NothingLost
pub mod QueueDemand
