pub mod PlainSequences
pub mod ScannerSteps
pub mod OpenLemmas
pub mod EachByte
pub mod Readable
pub mod ReadSoFar
pub mod PartLemmas
pub mod WholeSequences
mod OmittedMembers
pub mod TextFront
pub mod Scanning
pub mod Runs
mod PlainFront
mod WalkSteps
mod ComingNext
pub mod Walked
pub mod TakenSoFar
