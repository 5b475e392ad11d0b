pub mod Paths
pub mod Walk
pub mod Pending
pub mod Endings
