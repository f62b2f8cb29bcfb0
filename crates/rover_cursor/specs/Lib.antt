pub mod Segments
pub mod Sound
pub mod Course
pub mod Told
pub mod Refusals
