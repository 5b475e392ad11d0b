-- What a pass means, and which fault the content has otherwise.
pub mod TokenFault
pub mod Good
pub mod FirstFault
pub mod LastFault
pub mod Certain
pub mod TwoStarts
pub mod Needs
