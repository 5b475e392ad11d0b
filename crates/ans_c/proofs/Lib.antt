pub mod EachNumber
pub mod Bits
pub mod Rows
pub mod Room
pub mod Verdicts
pub mod MendingRooms
pub mod Redrawings
pub mod Pieces
