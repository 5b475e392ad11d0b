pub mod FlagsText
pub mod Suggested
pub mod Trials
