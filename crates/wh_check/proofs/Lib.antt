pub mod BrokenLemmas
pub mod HeldLemmas
pub mod NetLemmas
