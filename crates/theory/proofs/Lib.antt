-- Theorems that rest on a number which an edit of specs/ makes wrong: the near chances, what is printed of them, and the last steps of two limits.
pub mod Files
pub mod Limits
pub mod Outcomes
pub mod Plans
pub mod Stages
