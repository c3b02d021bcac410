pub mod FirstRows
pub mod FirstSeen
pub mod InOrder
pub mod IntegerLemmas
pub mod ListSteps
pub mod OrderedLists
pub mod RowSets
