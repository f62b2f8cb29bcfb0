pub mod Consoles
pub mod Fakes
