pub mod ImageParts
pub mod FedBytes
pub mod Retuning
