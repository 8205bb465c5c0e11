pub mod Table
pub mod Answer
pub mod Plan
pub mod History
