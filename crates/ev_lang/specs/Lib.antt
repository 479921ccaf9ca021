pub mod Words
pub mod Classes
pub mod Args
pub mod Verbs
pub mod Value
pub mod Lines
pub mod LineExamples
pub mod ReplyParts
