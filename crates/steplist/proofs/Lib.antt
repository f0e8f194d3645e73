pub mod Kept
pub mod Listed
pub mod Promised
pub mod Unique
