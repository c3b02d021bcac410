pub mod Printed
pub mod Queries
pub mod QueryTexts
pub mod QueryData
pub mod QueryLaws
