pub mod Told
pub mod Line
pub mod Scan
