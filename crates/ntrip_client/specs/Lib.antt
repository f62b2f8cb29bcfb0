pub mod Request
pub mod FirstLine
pub mod Answer
pub mod Steps
