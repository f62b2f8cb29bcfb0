pub mod Draws
pub mod Rounds
