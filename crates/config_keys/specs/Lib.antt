pub mod Answers
pub mod Rules
pub mod Texts
pub mod Lists
pub mod Records
pub mod Types
pub mod Printed
