pub mod Lines
pub mod Holds
