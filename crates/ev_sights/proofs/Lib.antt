pub mod Meeting
pub mod Sighting
pub mod Bounding
pub mod Alone
