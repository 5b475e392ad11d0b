pub mod RowLemmas
pub mod CommandLineLemmas
pub mod FlagLemmas
pub mod ErrorLemmas
pub mod MeaningLemmas
pub mod HelpWords
pub mod TopicLemmas
pub mod NumberLemmas
