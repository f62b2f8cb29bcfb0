pub mod GreetingLemmas
pub mod PlaceLemmas
pub mod PartLemmas
pub mod SentLemmas
