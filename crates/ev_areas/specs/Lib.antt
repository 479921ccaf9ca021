pub mod Edges
pub mod Packed
pub mod Meeting
