pub mod Counts
pub mod Cursors
pub mod Cycling
pub mod Reference
pub mod Rows
