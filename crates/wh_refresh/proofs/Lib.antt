pub mod Counting
pub mod Given
pub mod Made
pub mod Nets
pub mod OwnImage
