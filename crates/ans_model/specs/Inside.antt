-- What contracts inside the repository cite and no promise to a user does: the token of a kind, and an unfinished
-- sequence.
pub mod ShownKind
pub mod OpenPart
