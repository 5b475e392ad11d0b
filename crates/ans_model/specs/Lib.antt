-- The definitions, by rooms. What must be believed is in Bytes, File, Sequence, Screen, Verdict and Text; Inside
-- holds what only contracts inside the repository cite.
pub mod Bytes
pub mod File
pub mod Sequence
pub mod Screen
pub mod Verdict
pub mod Text
pub mod Inside
pub mod MendFlags
