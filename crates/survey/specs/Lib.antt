pub mod Grow
pub mod Looking
pub mod Sets
pub mod Told
