pub mod Mended
pub mod KindsFound
pub mod PlaysAlike
pub mod PlainBytes
mod ByteInSync
pub mod AgreedFound
pub mod RunsFound
pub mod NamedPlayers
pub mod KindsCounted
mod Effects
