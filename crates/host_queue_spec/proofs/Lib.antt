pub mod QueueHosts
pub mod ShownQueue
pub mod QueueHostTraces
