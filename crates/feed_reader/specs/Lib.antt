pub mod Content
pub mod Counts
pub mod Feeds
