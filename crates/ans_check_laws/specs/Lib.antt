pub mod Starts
pub mod CleanTexts
pub mod KeptReturns
pub mod BegunFile
pub mod Requests
