pub mod MoveLemmas
pub mod PeerLemmas
pub mod RecordLemmas
pub mod StepLemmas
pub mod KeepLemmas
pub mod RoundLemmas
pub mod EndLemmas
pub mod ArriveLemmas
