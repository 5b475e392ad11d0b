pub mod KnownBits
pub mod HalfCells
pub mod GridEdits
pub mod CellPlanes
pub mod RowCells
pub mod LentRows
