pub mod Sums
pub mod Summing
