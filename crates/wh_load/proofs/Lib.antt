mod BreakLemmas
pub mod DistinctLemmas
mod EvaluationLemmas
pub mod LimitLemmas
mod RepeatLemmas
mod SourceLemmas
