pub mod Opaque
pub mod Patches
pub mod Masks
pub mod SeenEdges
pub mod Sheets
pub mod TileJobs
pub mod Frames
pub mod Cuts
