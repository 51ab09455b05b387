pub mod Line
pub mod Last
pub mod Frame
pub mod InOrder
pub mod StartLine
pub mod Written
pub mod RoundTrips
