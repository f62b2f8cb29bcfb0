pub mod LeaveLemmas
pub mod WorkLemmas
pub mod CallersLemmas
pub mod CallingLemmas
pub mod WholeLemmas
pub mod StreetLemmas
