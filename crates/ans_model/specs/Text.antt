-- What is written.
pub mod Characters
pub mod Hexadecimal
pub mod Words
pub mod FaultText
pub mod ReportText
pub mod NeedsText
pub mod RecordText
pub mod TokensText
