pub mod Carry
pub mod Divide
pub mod Judge
pub mod Told
