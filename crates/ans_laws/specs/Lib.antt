-- Laws and examples of the definitions.
pub mod FileLaws
pub mod SequenceLaws
pub mod AttributeLaws
pub mod MoveLaws
pub mod StepLaws
pub mod StartLaws
pub mod TextExamples
