pub mod Feeding
pub mod Lists
pub mod Making
pub mod Sites
pub mod Stamping
pub mod TableLaws
pub mod Windows
