pub mod Request
pub mod Owed
pub mod Halts
pub mod Standing
pub mod Called
pub mod Junk
