pub mod Kinds
pub mod Ranges
pub mod Numbers
pub mod Texts
pub mod Lists
pub mod Pairs
pub mod Entries
