pub mod Splitting
pub mod FoundLemmas
pub mod Lacking
pub mod LaidParts
pub mod ContentLemmas
pub mod RecordLemmas
pub mod Overwriting
pub mod ResizedFiles
