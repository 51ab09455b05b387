pub mod QueueHost
pub mod QueueHostCalls
