pub mod FieldLemmas
pub mod RecordFields
pub mod RecordsLeft
pub mod RowLemmas
pub mod LineLemmas
