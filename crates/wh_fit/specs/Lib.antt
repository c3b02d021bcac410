pub mod Differences
pub mod Example
pub mod Fit
pub mod Held
