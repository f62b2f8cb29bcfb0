pub mod ClaimLemmas
pub mod LinkLemmas
pub mod SeenLemmas
pub mod BackLemmas
pub mod PointLemmas
pub mod ShownLemmas
pub mod WholeLemmas
