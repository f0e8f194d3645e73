pub mod Verdict
pub mod File
pub mod Near
