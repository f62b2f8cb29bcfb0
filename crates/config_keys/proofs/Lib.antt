pub mod ListLemmas
pub mod NumberLemmas
pub mod FaultLemmas
pub mod KeepLemmas
