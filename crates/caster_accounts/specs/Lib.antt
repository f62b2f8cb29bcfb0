pub mod History
pub mod Sums
pub mod Counts
pub mod Kept
pub mod KeptOnce
pub mod StillFits
