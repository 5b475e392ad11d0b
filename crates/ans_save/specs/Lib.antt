pub mod Names
pub mod Deeds
pub mod Reasons
pub mod Places
pub mod Replacing
pub mod Saving
pub mod Sparing
