pub mod Faults
pub mod Growing
pub mod Reasons
pub mod Exactly
