pub mod PenSteps
pub mod Printed
pub mod MoreLines
pub mod KeptCells
pub mod CellPlaySteps
pub mod CleanSteps
pub mod TabBlanks
pub mod BeforeFault
pub mod NamedCells
pub mod ClearedSteps
pub mod TallerFound
pub mod GoodFound
mod RunsPlayed
pub mod KeptSoFar
pub mod CountedRuns
pub mod NoMoves
