pub mod Keeping
pub mod Plan
pub mod History
