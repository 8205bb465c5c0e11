pub mod StreamParts
pub mod Lengths
pub mod Frames
pub mod Carried
pub mod WholeAgain
pub mod ReadBack
pub mod Samples
