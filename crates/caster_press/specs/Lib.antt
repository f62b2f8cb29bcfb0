pub mod Texts
pub mod Lines
pub mod Written
pub mod Places
pub mod Piles
pub mod Callers
