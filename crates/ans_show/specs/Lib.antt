pub mod Looks
pub mod Runs
pub mod TerminalText
pub mod PageText
pub mod Markups
pub mod ShortTexts
pub mod MarkupTables
