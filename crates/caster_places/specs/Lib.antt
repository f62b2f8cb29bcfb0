pub mod Piles
pub mod Leaves
pub mod Known
pub mod Rows
