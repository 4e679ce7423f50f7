mod Search
pub mod Claim
pub mod Impostors
