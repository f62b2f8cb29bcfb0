pub mod LookLemmas
pub mod SayLemmas
