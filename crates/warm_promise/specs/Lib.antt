pub mod Greeted
