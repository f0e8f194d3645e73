pub mod Packing
pub mod Making
pub mod Fields
pub mod Filing
pub mod Cleared
pub mod Unique
