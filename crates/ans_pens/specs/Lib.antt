pub mod Pens
pub mod Lines
pub mod Taller
pub mod Walkers
pub mod CellPlays
pub mod Evidence
pub mod RowMoves
pub mod Counted
