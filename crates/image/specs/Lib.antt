pub mod Bits
pub mod Format
pub mod Image
pub mod Reader
pub mod Calls
pub mod Inside
