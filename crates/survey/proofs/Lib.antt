pub mod Growth
pub mod Members
pub mod Marking
pub mod Surveyed
pub mod Looked
