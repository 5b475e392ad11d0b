-- Laws of players, and examples of where kinds arise.
pub mod Laws
pub mod Witnesses
pub mod Examples
