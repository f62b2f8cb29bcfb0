pub mod Links
pub mod Points
pub mod Keepers
