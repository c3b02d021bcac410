pub mod Clears
pub mod Framing
pub mod Grammar
pub mod Looks
pub mod Told
pub mod Torn
pub mod Walks
