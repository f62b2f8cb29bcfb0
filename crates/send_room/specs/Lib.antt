pub mod Flows
pub mod Windows
