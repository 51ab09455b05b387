pub mod StarredExamples
pub mod Kept
