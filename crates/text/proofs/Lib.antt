pub mod Naming
pub mod Paging
pub mod Counting
