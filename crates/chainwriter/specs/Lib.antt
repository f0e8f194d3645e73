pub mod Made
pub mod Packed
pub mod Tells
pub mod Source
