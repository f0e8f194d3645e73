pub mod Columns
pub mod Ordered
pub mod Rest
pub mod Told
pub mod Turns
