pub mod Calls
pub mod Selected
pub mod Promised
pub mod Begun
