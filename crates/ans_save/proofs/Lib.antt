pub mod SplitLemmas
pub mod NameLemmas
pub mod FollowsLemmas
pub mod RefusedLemmas
pub mod UnsavedLemmas
pub mod SparingLemmas
