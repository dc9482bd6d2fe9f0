pub mod Consumed
pub mod Pieces
pub mod Told
