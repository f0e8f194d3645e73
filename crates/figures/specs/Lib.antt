pub mod Told
pub mod Found
pub mod Traced
pub mod Judged
