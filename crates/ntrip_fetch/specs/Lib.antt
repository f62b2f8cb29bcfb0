pub mod Request
pub mod Answered
pub mod Steps
pub mod Writing
pub mod Stages
pub mod Fetched
pub mod Tries
pub mod Sinks
