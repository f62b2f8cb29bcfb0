pub mod Body
pub mod Calls
pub mod Standing
pub mod Refusals
pub mod Places
pub mod Taken
