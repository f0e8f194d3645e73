pub mod Told
pub mod Steps
pub mod Order
pub mod Reach
pub mod Check
pub mod Near
pub mod Limits
pub mod Answered
