pub mod FrontCounted
pub mod FormEnds
mod SomeText
pub mod HereLemmas
pub mod KeptSteps
