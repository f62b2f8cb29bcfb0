pub mod Owed
pub mod Made
pub mod Body
pub mod Places
pub mod Standing
pub mod Kept
