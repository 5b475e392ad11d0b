pub mod Tables
pub mod Pieces
pub mod TablesGrow
pub mod ShortTextLengths
pub mod RunLemmas
pub mod CellRuns
pub mod EachByte
