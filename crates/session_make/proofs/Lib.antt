pub mod DrawLemmas
pub mod RoundLemmas
pub mod FrameLemmas
pub mod SessionLemmas
pub mod SizeLemmas
pub mod Rows
