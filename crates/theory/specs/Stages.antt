-- The table, from the first rows to the last: what each step keeps, and what the last row says.
pub mod Leads
pub mod Removal
pub mod Given
pub mod First
pub mod Weighs
pub mod Stage
pub mod Fits
pub mod Unrounded
pub mod Last
pub mod Seen
pub mod Blended
pub mod Spreads
pub mod Outset
pub mod NearStep
pub mod Left
pub mod Records
pub mod Rewards
