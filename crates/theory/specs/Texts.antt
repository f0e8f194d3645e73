-- The text form of chain files: a text is of at most one chain with its tables, what is read from a text is one, and files and texts make the
-- round trip.
pub mod Lines
pub mod ChainOne
pub mod Split
pub mod Shown
pub mod Turns
pub mod Ended
pub mod Placed
pub mod Stored
pub mod Short
pub mod Made
pub mod Round
