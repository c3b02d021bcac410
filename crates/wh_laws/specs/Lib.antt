pub mod Acceptance
pub mod Example
pub mod Laws
