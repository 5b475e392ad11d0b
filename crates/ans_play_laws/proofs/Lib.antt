mod OneOfThree
pub mod OneEnd
pub mod TallerSteps
mod TallerScreens
mod EmptyRows
mod FullRows
mod LastPrint
