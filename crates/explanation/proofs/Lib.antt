pub mod Following
pub mod Room
pub mod Writing
pub mod Samples
