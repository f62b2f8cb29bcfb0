pub mod PieceLemmas
pub mod TornLemmas
pub mod StepLemmas
pub mod ListLemmas
pub mod ToldLemmas
pub mod StoreLemmas
pub mod LogLemmas
pub mod GateLemmas
