pub mod WalkLemmas
pub mod EndingLemmas
