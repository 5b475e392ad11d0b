pub mod NameLaws
pub mod NamedTokens
