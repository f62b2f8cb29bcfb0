pub mod Links
pub mod Sending
pub mod Served
pub mod Stepped
pub mod Publishes
pub mod Resting
pub mod Wear
