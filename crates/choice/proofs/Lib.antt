pub mod Members
pub mod Weights
pub mod Filling
pub mod Picking
pub mod Turning
pub mod Ordering
pub mod Unique
