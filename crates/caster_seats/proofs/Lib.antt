pub mod SharingLemmas
pub mod SittingLemmas
