-- Where players differ, and what is the same on all of them.
pub mod Kinds
pub mod Names
pub mod Sync
pub mod Situations
pub mod Players
pub mod Named
pub mod Classes
pub mod Mends
