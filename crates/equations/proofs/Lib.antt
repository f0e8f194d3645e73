pub mod Judging
pub mod Rounds
pub mod Unique
