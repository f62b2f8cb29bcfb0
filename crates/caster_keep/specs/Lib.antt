pub mod Links
pub mod Keepers
pub mod Stations
pub mod Gates
pub mod Keeping
pub mod Together
