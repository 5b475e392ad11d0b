pub mod FilesLemmas
pub mod ReportLemmas
pub mod ReportedLemmas
pub mod ServedLemmas
pub mod AnswerLemmas
pub mod ListingLemmas
pub mod RowsLemmas
mod WordsLemmas
