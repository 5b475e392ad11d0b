-- A file with a SAUCE record: its fields, how it is laid out, what is odd about it, and why it is refused.
pub mod Record
pub mod Layout
pub mod NoteConditions
pub mod Refusals
