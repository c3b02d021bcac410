pub mod Hash
pub mod Slots
pub mod Table
pub use Rattle.wh_base.specs.Columns
pub use Rattle.wh_base.specs.RowSet
pub use Rattle.wh_base.specs.Tables
pub use Rattle.wh_base.specs.Value
