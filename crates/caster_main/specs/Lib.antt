pub mod Calls
pub mod Yards
