pub mod ListLemmas
pub mod PileLemmas
pub mod SumLemmas
pub mod TotalLemmas
pub mod RowLemmas
pub mod ClosedLemmas
