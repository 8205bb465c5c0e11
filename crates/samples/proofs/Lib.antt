pub mod Questions
pub mod Samples
pub mod Addresses
pub mod Slaves
pub mod Figures
pub mod Table
