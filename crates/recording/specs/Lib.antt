pub mod Recording
pub mod Next
pub mod Decode
pub mod Normalize
pub mod Stage
