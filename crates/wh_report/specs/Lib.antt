pub mod Audit
pub mod Example
pub mod Report
