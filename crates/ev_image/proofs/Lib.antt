pub mod Four
pub mod Spellings
