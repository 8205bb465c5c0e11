pub mod Line
pub mod Explanation
pub mod Stage
