pub mod Causes
pub mod Front
pub mod Lexed
pub mod Lexes
pub mod Spelling
