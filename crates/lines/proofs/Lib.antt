pub mod Fitting
pub mod Lined
pub mod Verdicts
pub mod Figures
pub mod Nears
pub mod Limits
