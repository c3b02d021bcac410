pub mod Case
pub mod Files
pub mod Texts
pub mod Worked
