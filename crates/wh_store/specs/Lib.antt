pub mod Commit
pub mod Creation
pub mod Held
pub mod Image
pub mod Opening
pub mod Store
pub mod Warehouse
