pub mod Pieces
pub mod Lines
pub mod Turns
pub mod Split
pub mod Read
