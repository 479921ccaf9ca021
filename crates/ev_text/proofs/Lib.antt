pub mod Four
pub mod Spellings
pub mod Texts
