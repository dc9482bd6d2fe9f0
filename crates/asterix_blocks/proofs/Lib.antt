pub mod Framings
pub mod Spellings
pub mod Joined
