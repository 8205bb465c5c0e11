pub mod Fault
pub mod Reason
pub mod Stage
