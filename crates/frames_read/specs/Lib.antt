pub mod Ends
pub mod Scanned
pub mod DigitsRead
pub mod Counted
pub mod AcceptedAs
