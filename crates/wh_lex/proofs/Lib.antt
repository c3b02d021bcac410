pub mod FrontLemmas
pub mod LexLemmas
pub mod LexedLemmas
pub mod SpellingLemmas
pub mod SpelledLemmas
