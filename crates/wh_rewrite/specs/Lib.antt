pub mod Conjuncts
pub mod Nodes
pub mod Pushed
pub mod Rewritten
pub mod States
