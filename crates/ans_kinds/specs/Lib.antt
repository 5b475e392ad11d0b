pub mod Mend
pub mod SyncShown
pub mod NamesShown
pub mod KindsUsed
pub mod KindsWalked
pub mod AgreedWalked
pub mod SaidOfPlayers
