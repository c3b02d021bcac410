mod CoverLemmas
pub mod NumberLemmas
