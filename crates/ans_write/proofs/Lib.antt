pub mod WritesLemmas
pub mod PutsLemmas
pub mod HexadecimalDigits
pub mod RowTexts
