pub mod Starred
pub mod Promises
