pub mod Keys
pub mod Motions
pub mod Ranks
pub mod Tracks
