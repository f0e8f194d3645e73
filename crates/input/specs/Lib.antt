pub mod Kept
pub mod Reads
pub mod Gives
pub mod Digit
pub mod Run
