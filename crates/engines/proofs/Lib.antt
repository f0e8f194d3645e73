pub mod Outcomes
pub mod Traces
pub mod Told
pub mod TraceOne
pub mod Unique
