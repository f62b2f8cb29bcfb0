pub mod Measure
pub mod Choice
