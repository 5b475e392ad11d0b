pub mod CertainFaults
pub mod PlayLemmas
pub mod VerdictLemmas
pub mod RoomLemmas
pub mod LeastLemmas
