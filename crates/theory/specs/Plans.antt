-- Planning copies: the chain of a plan is well formed, the planner's answer is one, and more copies make the chance smaller.
pub mod Kinds
pub mod Sums
pub mod Formed
pub mod Copies
pub mod Filed
pub mod More
pub mod Judged
pub mod Told
