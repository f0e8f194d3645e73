pub mod NearHolds
pub mod NearClose
pub mod MissHolds
pub mod MissClose
pub mod NearSizes
pub mod NearShown
pub mod Line
