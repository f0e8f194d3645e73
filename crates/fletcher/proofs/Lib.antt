pub mod Summed
pub mod Columns
