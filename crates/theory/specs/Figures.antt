-- The equations: that each figure is there, and is one.
pub mod System
pub mod Solvable
pub mod Shares
pub mod Earnings
pub mod Unique
pub mod Below
pub mod Surely
pub mod Compared
pub mod Moved
pub mod Drift
pub mod Against
pub mod Cleared
pub mod Comes
pub mod Followed
pub mod Ways
pub mod Spread
pub mod Rewards
