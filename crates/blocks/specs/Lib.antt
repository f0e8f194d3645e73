pub mod Kinds
pub mod Tested
