pub mod Pieces
pub mod Page
