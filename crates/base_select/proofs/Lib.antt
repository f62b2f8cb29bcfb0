pub mod ChoiceLemmas
pub mod LawLemmas
pub mod NearestLemmas
