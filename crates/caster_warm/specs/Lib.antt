pub mod Numbers
pub mod Warm
pub mod Parts
pub mod Places
