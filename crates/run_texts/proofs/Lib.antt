pub mod FitLemmas
pub mod BareLemmas
pub mod MadeLemmas
