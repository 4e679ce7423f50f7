pub mod Memory
pub mod Paths
pub mod Reading
pub mod Prefix
pub mod Building
pub mod Answers
pub mod Spelling
pub mod Zeros
