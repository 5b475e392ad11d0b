pub mod NamedLines
pub mod Outcomes
