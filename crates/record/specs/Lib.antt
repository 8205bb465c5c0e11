pub mod Record
pub mod Encode
pub mod Value
pub mod Stage
