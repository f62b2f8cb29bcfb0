pub mod HistoryLemmas
pub mod ReadLemmas
mod Rows
pub mod TakingLemmas
pub mod RingLemmas
pub mod OwnLemmas
pub mod RoundLemmas
