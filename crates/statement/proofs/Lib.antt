mod Copies
mod Numbers
mod Finders
pub mod Theorems
pub mod Units
mod Widths
mod Evals
mod Runs
