pub mod Edits
pub mod Held
pub mod FailingOnce
