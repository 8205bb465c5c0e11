pub mod Choice
pub mod Table
pub mod Bytes
pub mod Over
pub mod Output
pub mod Refusals
