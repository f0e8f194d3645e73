pub mod Answer
pub mod ReadOff
pub mod Told
pub mod Trace
