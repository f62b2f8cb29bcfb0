pub mod NumberLaws
mod Rows
