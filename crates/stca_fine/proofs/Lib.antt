pub mod Apart
pub mod Beyond
pub mod Hits
pub mod Sets
pub mod Searches
pub mod Spans
pub mod Within
