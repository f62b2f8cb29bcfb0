pub mod StreamLemmas
pub mod HeadLemmas
pub mod BodyLemmas
pub mod PositionLemmas
