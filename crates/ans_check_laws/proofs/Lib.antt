pub mod Covering
mod HelpLemmas
pub mod NeedsAndChecks
pub mod CleanPieces
pub mod CleanPictures
pub mod CleanLines
pub mod CleanPlayers
pub mod CleanWhy
mod CleanTold
pub mod CleanReports
mod ShownNames
pub mod CleanNames
pub mod CleanBytes
pub mod ReturnsPut
pub mod NamedBytes
pub mod NamedAgain
pub mod CleanMended
pub mod CleanRedrawn
pub mod BytesTold
pub mod WholeFiles
pub mod MarkedContents
pub mod CutFiles
pub mod FieldsStay
pub mod RecordsKept
pub mod NothingGone
pub mod MendedItself
mod OneGoing
pub mod EditedOnce
pub mod MendedOrNot
pub mod ReasonsItself
pub mod MendedAgain
pub mod MendedTwice
pub mod NamedItself
pub mod PlayersShown
pub mod RedrawnAgain
pub mod MendedRedrawn
pub mod RedrawnPictures
pub mod RedrawnShown
pub mod UnredrawnFiles
pub mod OnePicture
mod BegunFiles
