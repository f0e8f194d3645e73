-- What a row says of its columns, in lowest terms, rounded, settled, and left alone.
pub mod Terms
pub mod Relation
pub mod Columns
pub mod Pattern
pub mod Flip
pub mod Round
pub mod Settle
pub mod Lone
