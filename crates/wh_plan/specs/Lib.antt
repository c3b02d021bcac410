pub mod Expressions
pub mod Held
pub mod Indexes
pub mod Laws
pub mod Plan
pub mod PlanText
