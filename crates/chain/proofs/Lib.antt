pub mod Terms
pub mod Passing
pub mod Unique
pub mod Rising
pub mod Lowest
pub mod Divisors
pub mod Faults
