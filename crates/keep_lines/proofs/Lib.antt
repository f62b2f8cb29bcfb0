pub mod EndLemmas
pub mod LinkLemmas
pub mod WordLemmas
pub mod PutLemmas
