pub mod Extending
pub mod Steps
pub mod Outcomes
pub mod Answers
pub mod Memory
pub mod Looping
pub mod Runs
pub mod Resets
