pub mod BodyLemmas
pub mod CallLemmas
pub mod HeldLemmas
pub mod StandingLemmas
pub mod TakenLemmas
