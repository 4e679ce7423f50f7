pub mod Filled
pub mod Headers
pub mod Parts
pub mod Sums
pub mod Theorems
pub mod Written
pub mod Copied
