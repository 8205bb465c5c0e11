pub mod Choice
pub mod Bytes
pub mod Output
pub mod Words
pub mod Refusal
