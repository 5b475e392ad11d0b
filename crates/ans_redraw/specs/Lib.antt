-- The plainest form of a picture.
pub mod Colours
pub mod Form
pub mod Numbers
pub mod Counts
pub mod Copies
pub mod RedrawnFile
pub mod RedrawnText
pub mod Redrawing
