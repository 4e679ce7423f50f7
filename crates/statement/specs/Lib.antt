pub mod Frames
pub mod Meaning
pub mod Lent
pub mod Promise
