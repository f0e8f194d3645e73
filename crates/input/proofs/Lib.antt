pub mod Taking
pub mod Joined
pub mod Giving
pub mod ReadWord
pub mod Capped
pub mod LimitWord
