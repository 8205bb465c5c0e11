pub mod Lines
pub mod Room
pub mod SoFar
pub mod Following
pub mod Samples
