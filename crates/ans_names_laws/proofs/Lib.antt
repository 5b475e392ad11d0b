pub mod NothingNamed
pub mod ColourTexts
mod CutSequences
pub mod NamedParts
mod NoneMissing
mod NamedReading
mod OmittedNumbers
mod NamedSteps
mod NamedAgreed
mod OwnGone
mod NamedPicture
mod NamedPlayers
