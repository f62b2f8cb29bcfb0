pub mod NameLemmas
pub mod SplitLemmas
pub mod LineLemmas
pub mod Rows
