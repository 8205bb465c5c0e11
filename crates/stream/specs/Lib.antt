pub mod Sync
pub mod Layout
pub mod Unused
pub mod Validation
pub mod Stage
