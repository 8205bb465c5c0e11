pub mod Holding
pub mod Receive
pub mod Feeding
pub mod Stage
