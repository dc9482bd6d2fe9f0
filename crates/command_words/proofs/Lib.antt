pub mod Counts
pub mod PlainWords
pub mod Unplanned
