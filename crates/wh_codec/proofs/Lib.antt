pub mod Appended
pub mod Fields
pub mod Frames
pub mod Loop
pub mod Tables
