pub mod Degrees
pub mod Table
