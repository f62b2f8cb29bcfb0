pub mod BookLemmas
pub mod LawLemmas
pub mod CountLemmas
pub mod CallSums
