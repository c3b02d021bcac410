pub mod Congruence
pub mod MeaningLemmas
pub mod NarrowedLemmas
pub mod SameMeaning
pub mod TypedLemmas
pub mod TypingLemmas
