pub mod Blocks
pub mod Grouping
pub mod LastBlock
pub mod MessagesInNumbers
pub mod Messages
pub use Rattle.asterix_fields.specs.Numbers
