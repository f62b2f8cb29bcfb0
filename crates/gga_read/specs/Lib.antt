pub mod Angle
pub mod Sentence
pub mod Report
