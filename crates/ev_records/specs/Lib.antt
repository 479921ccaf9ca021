pub mod Showing
pub mod Changes
pub mod Standing
pub mod Turned
pub mod Cells
pub mod Ranks
pub mod Near
pub mod TwoPlaces
