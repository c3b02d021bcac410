pub mod Connected
pub mod ConnectedLaws
pub mod Deltas
pub mod Example
pub mod Grouping
pub mod KeyLaws
pub mod KeyValues
pub mod Laws
