pub mod Lines
pub mod LinesFields
pub mod Name
pub mod Text
pub mod Split
