pub mod Program
pub mod Turn
pub mod WholeRun
pub mod EndSum
pub mod Replay
pub mod ReceivedInOrder
