pub mod StepLemmas
pub mod OwedLemmas
pub mod StageLemmas
pub mod HeldLemmas
pub mod LawLemmas
