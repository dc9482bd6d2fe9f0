pub mod Conflicts
pub mod Relative
pub mod Stca
