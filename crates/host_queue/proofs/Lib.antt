pub mod KnownBytes
pub mod FrontAlone
