pub mod Growing
pub mod Sums
pub mod Filing
pub mod Unique
