pub mod Tables
pub mod Sections
pub mod Counting
pub mod Finding
pub mod Partial
pub mod Elements
pub mod Laws
pub mod Samples
