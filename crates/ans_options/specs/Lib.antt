pub mod Topics
pub mod CommandLine
pub mod Mistakes
