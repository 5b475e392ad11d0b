pub mod Tried
pub mod Writes
pub mod Puts
pub mod Tables
