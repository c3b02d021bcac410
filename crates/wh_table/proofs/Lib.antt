pub mod Hashes
pub mod Indexes
pub mod Kept
pub mod LiveRows
pub mod TableLemmas
pub mod Walks
