pub mod WritingLemmas
pub mod BodyLemmas
pub mod StageLemmas
pub mod ReceivingLemmas
pub mod FetchedLemmas
pub mod LawLemmas
pub mod TriesLemmas
