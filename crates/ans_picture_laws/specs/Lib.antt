-- Laws of pictures that are shown and redrawn, and small pictures redrawn.
pub mod Seen
pub mod TerminalReader
pub mod PageReader
pub mod LongestRuns
pub mod Drawable
pub mod FormLaws
pub mod FormExamples
pub mod RedrawnFileLaws
