pub mod Faults
pub mod Names
pub mod Entries
pub mod Served
pub mod Bare
pub mod Document
pub mod Kept
