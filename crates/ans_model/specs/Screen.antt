-- The machine: attributes, the state, what a token does to it, and the states that a play begins from.
pub mod Attribute
pub mod State
pub mod Step
pub mod StartClass
pub mod Beginning
