pub mod Connected
pub mod Deltas
pub mod Example
pub mod Grouping
pub mod KeyValues
