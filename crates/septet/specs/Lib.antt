pub mod Septet
pub mod Answer
