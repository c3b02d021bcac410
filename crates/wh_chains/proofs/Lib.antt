pub mod Linking
pub mod Walks
