pub mod Pieces
pub mod Unwanted
pub mod Table
pub mod Here
pub mod Keeping
