mod Pushing
mod Overwriting
mod RecordWidth
mod CommentsCounted
mod LastRecord
pub mod EndMarks
mod Returns
mod MovedDown
mod RowEndsOut
mod ContentFront
mod FullRowsOut
mod SequencesOut
mod MendedTexts
mod FewerEnds
pub mod NamesWaiting
mod NumbersToZero
mod Searching
mod SearchSteps
mod MovedUp
mod SearchResults
mod NamedParts
mod FirstPrint
mod NamedGrowth
mod NamedWriting
mod NamedFiles
pub mod NamedBound
pub mod MendLemmas
pub mod MendedLemmas
pub mod OlderOut
mod MendRoomLemmas
mod EditLemmas
mod DraftRoomLemmas
mod FrontsPass
pub mod SequencesLeft
