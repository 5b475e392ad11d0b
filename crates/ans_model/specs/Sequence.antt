-- What bytes of the content mean: kinds of tokens, how escape sequences are spelled, what they mean, and which tokens
-- bytes are read as.
pub mod TokenKind
pub mod Omitted
pub mod Spelling
pub mod Meaning
pub mod Reads
