-- Within so many retries: the rounded rounds beside the true ones, the true ones beside the chance, and that the answer is one.
pub mod Round
pub mod Held
pub mod Reached
pub mod Answers
pub mod Texts
