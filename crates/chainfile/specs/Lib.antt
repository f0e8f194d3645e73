pub mod Input
pub mod Tells
pub mod Index
