pub mod ListLemmas
pub mod TextLemmas
pub mod WrittenLemmas
pub mod PlaceLemmas
pub mod PileLemmas
pub mod CallerLemmas
pub mod SumLemmas
