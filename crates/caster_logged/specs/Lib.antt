pub mod Inputs
pub mod Callers
pub mod Peers
pub mod Runs
pub mod Keepers
pub mod Complete
