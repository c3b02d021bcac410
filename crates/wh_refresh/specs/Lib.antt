pub mod Net
pub mod Refresh
