pub mod Gained
pub mod Moments
mod Crashed
mod LogKept
mod Syncs
