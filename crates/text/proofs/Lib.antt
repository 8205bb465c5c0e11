pub mod Decimal
pub mod Samples
