pub mod Places
pub mod SumLemmas
pub mod ShareLemmas
