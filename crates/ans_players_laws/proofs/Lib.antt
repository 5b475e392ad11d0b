pub mod Everywhere
pub mod Strict
pub mod NamedOnce
mod Search
pub mod OneLeastSame
mod OwnGoes
pub mod MendedPlayers
mod Parting
