pub mod Statements
pub mod SpecificationData
pub mod Texts
pub mod SpecTexts
pub mod Printed
pub mod Textual
