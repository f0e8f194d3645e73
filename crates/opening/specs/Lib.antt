pub mod Sizes
pub mod Book
pub mod Split
pub mod Opened
pub mod Asked
