pub mod Asking
pub mod Lining
pub mod Tabling
pub mod Scanning
pub mod Unique
