pub mod Calls
pub mod Search
pub mod Levels
pub mod Inside
pub mod Listing
pub mod Settled
