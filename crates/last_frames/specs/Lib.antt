pub mod Last
pub mod Latest
pub mod Filters
pub mod Station
pub mod Greeted
pub mod Placed
pub mod Once
pub mod LockTests
