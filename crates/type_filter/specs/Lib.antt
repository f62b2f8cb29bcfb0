pub mod Permitted
pub mod Codes
pub mod Numbers
pub mod Kinds
pub mod Faults
