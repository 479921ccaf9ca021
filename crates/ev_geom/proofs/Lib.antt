pub mod Areas
pub mod Meeting
pub mod Moving
pub mod Rows
pub mod Banding
pub mod Listing
pub mod Scans
pub mod Tilings
