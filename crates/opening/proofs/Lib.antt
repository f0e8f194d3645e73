pub mod Placing
pub mod Reading
pub mod Held
pub mod Unique
