pub mod TextLemmas
pub mod DigitLemmas
