pub mod Body
pub mod Message
pub mod Status
pub mod Text
