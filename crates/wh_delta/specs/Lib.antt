pub mod Candidates
pub mod Join
