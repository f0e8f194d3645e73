pub mod Lines
pub mod Stands
