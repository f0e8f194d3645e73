-- Edges, paths and sets of states: what is decided and counted of a chain.
pub mod Fine
pub mod Rewards
pub mod Flow
pub mod Joined
pub mod Picked
pub mod Parted
pub mod Path
pub mod Sets
pub mod Marks
pub mod Counted
