pub mod Record
pub mod Table
pub mod Reading
pub mod Room
