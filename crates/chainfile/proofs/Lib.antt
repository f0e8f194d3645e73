pub mod Tested
pub mod Filling
pub mod Flags
pub mod Saving
pub mod Opening
pub mod Counting
pub mod Unique
