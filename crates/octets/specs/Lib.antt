pub mod Input
pub mod Written
