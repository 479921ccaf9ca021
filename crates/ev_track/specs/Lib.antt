pub mod Marked
pub mod Tracks
pub mod LendsTracked
pub mod Settling
