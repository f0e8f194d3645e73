pub mod Edge
pub mod Lent
pub mod Reduce
pub mod Rising
pub mod Refusal
pub mod Given
