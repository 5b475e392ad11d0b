pub mod AttributeFieldsLemmas
pub mod MoveLemmas
pub mod StepChanges
pub mod NeverScrolls
pub mod ClassStarts
pub mod OneTokensText
pub mod FirstThatApplies
pub mod ComputedReading
