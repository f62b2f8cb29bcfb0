pub mod LastLemmas
pub mod GreetedLemmas
