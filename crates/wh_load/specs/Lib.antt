pub mod Load
pub mod Repeats
pub mod Sources
