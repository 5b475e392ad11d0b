pub mod FileVerdict
pub mod ScreenRoom
pub mod LentScreen
pub mod StartParts
pub mod FileNeeds
pub mod FilePlayed
