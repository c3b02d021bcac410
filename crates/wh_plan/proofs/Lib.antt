mod ColumnLemmas
pub mod ExprMeaning
pub mod HeldLemmas
pub mod IndexLemmas
pub mod OrderLemmas
mod PlanLemmas
pub mod UsesLemmas
