pub mod LineLemmas
pub mod SayingLemmas
pub mod OnceLemmas
pub mod RequestLemmas
mod Rows
