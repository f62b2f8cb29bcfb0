pub mod Sharing
pub mod SeatedCallers
pub mod Seated
