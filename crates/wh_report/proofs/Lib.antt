pub mod AuditLemmas
pub mod GivenBack
pub mod Numbered
pub mod ReportLemmas
pub mod Worked
