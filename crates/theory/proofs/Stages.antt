pub mod Nearly
pub mod NearDigits
pub mod NearLast
pub mod Missed
