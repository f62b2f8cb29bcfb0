pub mod SoundLemmas
pub mod CourseLemmas
pub mod ToldLemmas
pub mod RoundLemmas
