pub mod Rewriting
pub mod Unique
