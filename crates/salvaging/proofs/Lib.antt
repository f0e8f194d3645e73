pub mod Lined
pub mod Said
pub mod Read
pub mod Printed
pub mod Unique
