pub mod Body
pub mod Text
pub mod Machine
pub mod Answer
pub mod Written
