pub mod More
pub mod Fewest
