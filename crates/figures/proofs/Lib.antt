pub mod Outcomes
pub mod Unique
pub mod Traces
pub mod Judged
pub mod Withins
