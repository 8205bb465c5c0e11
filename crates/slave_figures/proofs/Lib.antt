pub mod TrueFigures
pub mod AnyFigures
pub mod Checking
pub mod Histories
