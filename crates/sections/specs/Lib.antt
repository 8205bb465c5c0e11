pub mod Section
pub mod Element
pub mod Answer
pub mod Part
pub mod Stage
