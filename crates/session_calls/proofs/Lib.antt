pub mod PlanLemmas
pub mod PlaceLemmas
pub mod WentLemmas
